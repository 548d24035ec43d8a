-- The bytes written are those of the store; written out, so that a wrong body is refused without another search.
use Rattle.std.proofs.Common.{rules}
use Rattle.node_memory.proofs.memory.Memory.store_out_of_line.Goals as goal

pub returns : goal.returns
returns g c = search rules
