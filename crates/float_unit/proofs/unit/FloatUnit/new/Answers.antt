-- A new unit has 32 registers, each below 2^64, and an `frm` of three bits.
use Rattle.std.proofs.Common.{◌<◌, ◌^◌, refl, arith}
use Rattle.std.proofs.lemmas.List.Elements.{All-replicate}
use Rattle.float_unit.proofs.unit.FloatUnit.new.Goals as goal

pub invariant_of-result : goal.invariant_of-result
invariant_of-result c = record {
  thirty_two = refl;
  wide = All-replicate (λ a. a < 2 ^ 64) 32 0 (omega arith);
  three_bits = omega arith;
}
