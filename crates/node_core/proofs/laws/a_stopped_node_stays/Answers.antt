-- Steps change nothing of a node that does not run.
use Rattle.node_core.proofs.Steps.{local_steps-stopped}
use Rattle.node_core.proofs.laws.a_stopped_node_stays.Goals as goal

pub returns : goal.returns
returns c = local_steps-stopped
