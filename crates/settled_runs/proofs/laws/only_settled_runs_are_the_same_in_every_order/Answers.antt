-- A settled run comes to one machine, and a contested byte would make two.
use Rattle.settled_runs.proofs.Contested.{settled_just_where}
use Rattle.settled_runs.proofs.laws.only_settled_runs_are_the_same_in_every_order.Goals as goal

pub returns : goal.returns
returns c = settled_just_where
