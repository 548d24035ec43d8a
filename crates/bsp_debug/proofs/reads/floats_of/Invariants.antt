-- The registers so far are those of the unit.
use Rattle.std.proofs.Common.{◌≡◌, ℕ, ◌<◌, length, get_or}
use Rattle.bsp_debug.proofs.reads.floats_of.Given as goal

abbrev pub invariant-loop-n : goal.invariant-loop-n
invariant-loop-n g l = record {
  thirty_two : length l.f ≡ 32;
  read : (k : ℕ) → k < l.n → get_or l.f k 0 ≡ get_or l.unit.registers k 0;
}
