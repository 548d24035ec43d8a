-- Some steps are made, and there are notes of their requests.
use Rattle.exposed_runs.proofs.Noting.{Noting, left_at}
use Rattle.exposed_runs.proofs.parts.note_part.Given as goal

abbrev pub invariant-loop-machine : goal.invariant-loop-machine
invariant-loop-machine g l = Noting l.initial.machine l.machine l.rank l.initial.notes.items l.notes.items

abbrev pub decreases-loop-machine : goal.decreases-loop-machine
decreases-loop-machine g l = left_at l.machine l.rank
