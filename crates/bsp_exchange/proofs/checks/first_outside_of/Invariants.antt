-- No request before number `issue` leaves its area.
use Rattle.std.proofs.Common.{◌≡◌}
use Rattle.bsp_exchange.specs.Exchange.{states}
use Rattle.bsp_exchange.specs.Issued.{issued_by}
use Rattle.bsp_exchange.specs.Faults.{first_outside}
use Rattle.bsp_exchange.proofs.Finds.{issued_from}
use Rattle.bsp_exchange.proofs.checks.first_outside_of.Given as goal

abbrev pub invariant-loop-issue : goal.invariant-loop-issue
invariant-loop-issue g l =
    first_outside (states l.nodes) (issued_from l.node.node l.issue) ≡ first_outside (states l.nodes) (issued_by l.node.node)
