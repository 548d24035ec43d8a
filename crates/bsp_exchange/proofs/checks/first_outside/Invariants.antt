-- No request of the nodes before this one leaves its area.
use Rattle.std.proofs.Common.{◌≡◌, drop}
use Rattle.bsp_exchange.specs.Exchange.{states}
use Rattle.bsp_exchange.specs.Issued.{issued}
use Rattle.bsp_exchange.specs.Faults.{first_outside}
use Rattle.bsp_exchange.proofs.checks.first_outside.Given as goal

abbrev pub invariant-loop-node : goal.invariant-loop-node
invariant-loop-node g l =
    first_outside (states l.nodes) (issued (drop l.node-index (states l.nodes))) ≡ first_outside (states l.nodes) (issued (states l.nodes))
