-- The half-words of the numbers before this one are written.
use Rattle.std.proofs.Common.{◌≡◌, ◌++◌, ◌^◌, take, w16}
use Rattle.std.specs.List.{flat_map}
use Rattle.std.specs.Int.{to_le_bytes}
use Rattle.rv_asm.specs.Targets.{modulo}
use Rattle.rv_asm.proofs.writer.push_halves.Given as goal

abbrev pub invariant-loop-number : goal.invariant-loop-number
invariant-loop-number g l =
    l.bytes.items ≡ l.initial.bytes.items ++ flat_map (λ n. to_le_bytes w16 (modulo (2 ^ 16) n)) (take l.number-index l.numbers)
