-- If no line is told, each superstep is settled, and so every order of its requests comes to the same end.
use Rattle.std.proofs.Common.{◌+◌}
use Rattle.settled_runs.proofs.Runs.{last-same}
use Rattle.contested_runs.proofs.Settled.{told-settled}
use Rattle.contested_runs.proofs.laws.a_run_of_which_nothing_is_told_is_settled.Goals as goal

pub returns-clause-settled : goal.returns-clause-settled
returns-clause-settled c = λ start k told. told-settled start k told

pub returns-clause-same_end : goal.returns-clause-same_end
returns-clause-same_end c = λ start end told run. last-same start end (told-settled start (start.settings.limit + 1) told) run
