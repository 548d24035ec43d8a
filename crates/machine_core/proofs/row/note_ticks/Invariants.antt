-- The ticks of the nodes before this rank are noted, and the others are as they were.
use Rattle.std.proofs.Common.{◌≡◌}
use Rattle.machine_core.proofs.States.{noted}
use Rattle.machine_core.proofs.row.note_ticks.Given as goal

abbrev pub invariant-loop-rank : goal.invariant-loop-rank
invariant-loop-rank g l = l.started ≡ noted l.nodes l.initial.started l.rank
