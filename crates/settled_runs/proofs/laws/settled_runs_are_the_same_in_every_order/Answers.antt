-- Superstep by superstep a settled run comes to one machine in every order; `limit` + 1 of them are the whole run.
use Rattle.settled_runs.proofs.Runs.{run-same, last-same}
use Rattle.settled_runs.proofs.laws.settled_runs_are_the_same_in_every_order.Goals as goal

pub returns-clause-run : goal.returns-clause-run
returns-clause-run c = run-same

pub returns-clause-last : goal.returns-clause-last
returns-clause-last c = last-same
