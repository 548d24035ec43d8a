-- So far there is a part with nothing in it for each node before this one.
use Rattle.std.proofs.Common.{◌≡◌, replicate}
use Rattle.bsp_exchange.specs.Arrivals.{nothing}
use Rattle.bsp_exchange.proofs.gather.empty_parts.Given as goal

abbrev pub invariant-loop-node : goal.invariant-loop-node
invariant-loop-node g l = l.parts.items ≡ replicate l.node-index nothing
