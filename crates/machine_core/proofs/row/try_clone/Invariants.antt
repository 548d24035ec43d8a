-- The copies so far have the states of the nodes that were passed.
use Rattle.std.proofs.Common.{◌≡◌, take}
use Rattle.bsp_exchange.specs.Exchange.{states}
use Rattle.machine_core.proofs.row.try_clone.Given as goal

abbrev pub invariant-loop-node : goal.invariant-loop-node
invariant-loop-node g l = states l.row.items ≡ states (take l.node-index l.nodes)
