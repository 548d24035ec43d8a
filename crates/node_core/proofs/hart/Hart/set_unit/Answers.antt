-- The unit is one in which all is zero, or there is none; a search finds it.
use Rattle.std.proofs.Common.{rules}
use Rattle.node_core.proofs.hart.Hart.set_unit.Goals as goal

pub returns : goal.returns
returns g c = search rules
