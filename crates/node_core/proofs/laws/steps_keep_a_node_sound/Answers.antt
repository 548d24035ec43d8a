-- A step keeps a node sound, and so do any number of steps.
use Rattle.node_core.proofs.Sound.{IsSoundNode-local_step, IsSoundNode-local_steps}
use Rattle.node_core.proofs.laws.steps_keep_a_node_sound.Goals as goal

pub returns-clause-step : goal.returns-clause-step
returns-clause-step c = IsSoundNode-local_step

pub returns-clause-steps : goal.returns-clause-steps
returns-clause-steps c = IsSoundNode-local_steps
