-- No steps change nothing, one of them is the step, and two runs of steps make one run of their sum.
use Rattle.node_core.proofs.Steps.{local_steps-zero, local_steps-one, local_steps-add}
use Rattle.node_core.proofs.laws.steps_add_up.Goals as goal

pub returns-clause-none : goal.returns-clause-none
returns-clause-none c = local_steps-zero

pub returns-clause-one : goal.returns-clause-one
returns-clause-one c = local_steps-one

pub returns-clause-more : goal.returns-clause-more
returns-clause-more c = local_steps-add
