-- The fault of a load beyond the memory has the name of the definition.
use Rattle.node_core.proofs.state.Fault.name.Goals as goal

pub returns-in-LoadOutside : goal.returns-in-LoadOutside
returns-in-LoadOutside c = rw c.in-LoadOutside.is
