-- After a step, and after any number of them, a node is a later one of the same; the step of a running node is one tick.
use Rattle.node_core.proofs.Sound.{IsLater-local_step, IsLater-local_steps, local_step-ticks}
use Rattle.node_core.proofs.laws.steps_keep_what_a_node_is.Goals as goal

pub returns-clause-step : goal.returns-clause-step
returns-clause-step c = IsLater-local_step

pub returns-clause-steps : goal.returns-clause-steps
returns-clause-steps c = IsLater-local_steps

pub returns-clause-tick : goal.returns-clause-tick
returns-clause-tick c = local_step-ticks
