-- `lui` and `auipc` put the definition's value into their register and go past their code; a search finds it.
use Rattle.std.proofs.Common.{rules}
use Rattle.node_core.proofs.hart.Hart.upper.Goals as goal

pub returns-clause-hart : goal.returns-clause-hart
returns-clause-hart g c = search rules
