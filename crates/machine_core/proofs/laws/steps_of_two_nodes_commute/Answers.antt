-- Steps of two ranks change two places of the row, so their order does not matter.
use Rattle.machine_core.proofs.Steps.{steps-comm}
use Rattle.machine_core.proofs.laws.steps_of_two_nodes_commute.Goals as goal

pub returns : goal.returns
returns c = steps-comm
