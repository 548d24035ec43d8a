-- The registers so far are those of the hart.
use Rattle.std.proofs.Common.{◌≡◌, ℕ, ◌<◌, length, get_or}
use Rattle.bsp_debug.proofs.reads.registers_of.Given as goal

abbrev pub invariant-loop-n : goal.invariant-loop-n
invariant-loop-n g l = record {
  thirty_two : length l.x ≡ 32;
  read : (k : ℕ) → k < l.n → get_or l.x k 0 ≡ get_or l.node.node.hart.registers k 0;
}
