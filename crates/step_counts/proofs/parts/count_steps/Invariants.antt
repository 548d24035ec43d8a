-- The steps made and counted so far, and those that the rank still has to make, are all of its steps.
use Rattle.std.proofs.Common.{◌≡◌, ◌++◌, drop, length, take}
use Rattle.step_counts.specs.Parts.{addresses_at}
use Rattle.step_counts.proofs.Counting.{Counted, Counting}
use Rattle.step_counts.proofs.parts.count_steps.Given as goal

abbrev pub invariant-loop-pcs : goal.invariant-loop-pcs
invariant-loop-pcs g l = record {
  counting : Counting l.initial.machine l.machine l.rank l.table;
  memory : l.table.memory ≡ l.initial.table.memory;
}

abbrev pub decreases-loop-pcs : goal.decreases-loop-pcs
decreases-loop-pcs g l = length (addresses_at l.machine l.rank)

-- the addresses from this place on are not counted yet
abbrev pub invariant-loop-place : goal.invariant-loop-place
invariant-loop-place g l = record {
  counted : Counted (addresses_at l.fn.machine l.rank) (drop l.place (take l.made l.pcs) ++ addresses_at l.machine l.rank) l.table;
  memory : l.table.memory ≡ l.fn.table.memory;
}
