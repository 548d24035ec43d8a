-- No superstep leads to the machine itself, and an allowed order adds one superstep to a choice.
use Rattle.std.proofs.Common.{refl}
use Rattle.settled_runs.proofs.Contested.{one-more}
use Rattle.settled_runs.proofs.laws.each_order_is_a_choice.Goals as goal

pub returns-clause-start : goal.returns-clause-start
returns-clause-start c = λ m. refl

pub returns-clause-more : goal.returns-clause-more
returns-clause-more c = one-more
