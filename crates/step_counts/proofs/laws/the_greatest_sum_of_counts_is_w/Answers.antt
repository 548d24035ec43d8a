-- The most steps of a rank in a superstep are its w, where the superstep has just begun.
use Rattle.step_counts.proofs.Sums.{greatest-work, HasBegun-fresh, HasBegun-superstep}
use Rattle.step_counts.proofs.laws.the_greatest_sum_of_counts_is_w.Goals as goal

pub returns-clause-w : goal.returns-clause-w
returns-clause-w c = greatest-work

pub returns-clause-start : goal.returns-clause-start
returns-clause-start c = HasBegun-fresh

pub returns-clause-next : goal.returns-clause-next
returns-clause-next c = HasBegun-superstep
