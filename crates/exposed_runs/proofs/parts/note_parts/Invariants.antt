-- The ranks below this one have made their parts, and there are notes of their requests.
use Rattle.exposed_runs.proofs.Parting.{Parting}
use Rattle.exposed_runs.proofs.parts.note_parts.Given as goal

abbrev pub invariant-loop-rank : goal.invariant-loop-rank
invariant-loop-rank g l = Parting l.initial.machine l.machine l.rank l.notes.items
