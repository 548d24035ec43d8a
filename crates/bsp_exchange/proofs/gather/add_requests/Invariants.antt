-- No request before this one leaves its area, those that are left lead to what all of them do, and what those before it move is added.
use Rattle.std.proofs.Common.{◌≡◌, length, take}
use Rattle.bsp_exchange.specs.Exchange.{states}
use Rattle.bsp_exchange.specs.Issued.{issued_by}
use Rattle.bsp_exchange.specs.Faults.{first_outside}
use Rattle.bsp_exchange.specs.Arrivals.{with_issued}
use Rattle.bsp_exchange.specs.Loads.{with_transfers, transfers_of}
use Rattle.bsp_exchange.proofs.Finds.{issued_from}
use Rattle.bsp_exchange.proofs.gather.add_requests.Given as goal

abbrev pub invariant-loop-request : goal.invariant-loop-request
invariant-loop-request g l = record {
  size : length l.parts ≡ length l.nodes;
  inside : first_outside (states l.nodes) (issued_from l.node.node l.request-index)
      ≡ first_outside (states l.nodes) (issued_by l.node.node);
  same : with_issued (states l.nodes) l.parts (issued_from l.node.node l.request-index)
      ≡ with_issued (states l.nodes) l.fn.parts (issued_by l.node.node);
  added : l.loads ≡ with_transfers l.fn.loads
      (transfers_of l.node.node.hart.rank (take l.request-index l.node.node.hart.communication.requests.requests));
}
