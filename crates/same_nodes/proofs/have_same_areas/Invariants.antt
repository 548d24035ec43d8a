-- The areas in the slots before this one are the same.
use Rattle.std.proofs.Common.{◌≡◌, ℕ, ◌<◌}
use Rattle.std.specs.Prelude.{slice_get}
use Rattle.same_nodes.proofs.have_same_areas.Given as goal

abbrev pub invariant-loop-slot : goal.invariant-loop-slot
invariant-loop-slot g l =
    (k : ℕ) → k < l.slot → slice_get l.slots.registrations.in_effect k ≡ slice_get l.others.registrations.in_effect k
