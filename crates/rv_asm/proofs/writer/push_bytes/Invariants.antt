-- The bytes of the numbers before this one are written.
use Rattle.std.proofs.Common.{◌≡◌, ◌++◌, ◌^◌, take, map}
use Rattle.rv_asm.specs.Targets.{modulo}
use Rattle.rv_asm.proofs.writer.push_bytes.Given as goal

abbrev pub invariant-loop-number : goal.invariant-loop-number
invariant-loop-number g l = l.bytes.items ≡ l.initial.bytes.items ++ map (modulo (2 ^ 8)) (take l.number-index l.numbers)
