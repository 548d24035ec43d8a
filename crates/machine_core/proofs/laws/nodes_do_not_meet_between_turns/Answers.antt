-- The three parts of the law: each node makes its own steps, all else is kept, and any steps are those of some events.
use Rattle.machine_core.proofs.Lent.{row_is_events}
use Rattle.machine_core.proofs.Steps.{slice_get-after, after-others}
use Rattle.machine_core.proofs.laws.nodes_do_not_meet_between_turns.Goals as goal

pub returns-clause-steps : goal.returns-clause-steps
returns-clause-steps c = slice_get-after

pub returns-clause-others : goal.returns-clause-others
returns-clause-others c = after-others

pub returns-clause-reached : goal.returns-clause-reached
returns-clause-reached c = row_is_events
