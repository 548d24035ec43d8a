-- A rank's counts add up to its steps, and these to its ticks, as long as its addresses are words.
use Rattle.step_counts.proofs.Sums.{counts-sum, counts-ticks, machine-ticks, steps-ticks}
use Rattle.step_counts.proofs.Words.{HasWordPcs-fresh, HasWordPcs-superstep, words-addresses}
use Rattle.step_counts.proofs.laws.the_counts_of_a_rank_add_up_to_its_ticks.Goals as goal

pub returns-clause-steps : goal.returns-clause-steps
returns-clause-steps c = steps-ticks

pub returns-clause-sum : goal.returns-clause-sum
returns-clause-sum c = counts-sum

pub returns-clause-words : goal.returns-clause-words
returns-clause-words c = words-addresses

pub returns-clause-ticks : goal.returns-clause-ticks
returns-clause-ticks c = counts-ticks

pub returns-clause-start : goal.returns-clause-start
returns-clause-start c = HasWordPcs-fresh

pub returns-clause-next : goal.returns-clause-next
returns-clause-next c = HasWordPcs-superstep

pub returns-clause-machine : goal.returns-clause-machine
returns-clause-machine c = machine-ticks
