-- Nothing is reserved, or there are no instructions of A; a search finds it.
use Rattle.std.proofs.Common.{rules}
use Rattle.node_core.proofs.hart.Hart.set_atomics.Goals as goal

pub returns : goal.returns
returns g c = search rules
