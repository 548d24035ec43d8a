-- What `get` returns for a rank is the element at that place of the list, if there is one.
use Rattle.bsp_exchange.proofs.Lookups.{element_got}
use Rattle.bsp_exchange.proofs.checks.node_at.Goals as goal

pub returns : goal.returns
returns g c = element_got c.args.nodes.now c.args.rank c.get.result c.get.ensures.lookup
