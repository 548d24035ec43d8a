-- The run superstep by superstep has an outcome, and a list of events has it too.
use Rattle.machine_core.proofs.Ends.{end_of-over, finish-all}
use Rattle.machine_core.proofs.laws.every_machine_ends.Goals as goal

pub returns-clause-supersteps : goal.returns-clause-supersteps
returns-clause-supersteps c = end_of-over

pub returns-clause-events : goal.returns-clause-events
returns-clause-events c = finish-all
