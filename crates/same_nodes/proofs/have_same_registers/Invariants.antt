-- The registers before number n are the same.
use Rattle.std.proofs.Common.{◌≡◌, ℕ, ◌<◌}
use Rattle.std.specs.Prelude.{slice_index}
use Rattle.same_nodes.proofs.have_same_registers.Given as goal

abbrev pub invariant-loop-n : goal.invariant-loop-n
invariant-loop-n g l =
    (k : ℕ) → k < l.n → slice_index l.node.node.hart.registers k ≡ slice_index l.other.node.hart.registers k
