-- The call of number 9 is that of the definitions' table.
use Rattle.node_core.proofs.call.Call.of_number.Goals as goal

pub returns-in-9 : goal.returns-in-9
returns-in-9 c = rw c.in-9.is
