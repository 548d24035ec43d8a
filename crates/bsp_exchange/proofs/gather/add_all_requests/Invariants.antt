-- No request of the nodes before this one leaves its area, those that are left lead to what all of them do, and what those before it move
-- is added.
use Rattle.std.proofs.Common.{◌≡◌, length, take, drop}
use Rattle.bsp_exchange.specs.Exchange.{states}
use Rattle.bsp_exchange.specs.Issued.{issued}
use Rattle.bsp_exchange.specs.Faults.{first_outside}
use Rattle.bsp_exchange.specs.Arrivals.{with_issued}
use Rattle.bsp_exchange.specs.Loads.{with_transfers}
use Rattle.bsp_exchange.specs.Traffic.{transfers}
use Rattle.bsp_exchange.proofs.Gathered.{AreSoundBelow}
use Rattle.bsp_exchange.proofs.gather.add_all_requests.Given as goal

abbrev pub invariant-loop-node : goal.invariant-loop-node
invariant-loop-node g l = record {
  size : length l.parts ≡ length l.nodes;
  inside : first_outside (states l.nodes) (issued (drop l.node-index (states l.nodes)))
      ≡ first_outside (states l.nodes) (issued (states l.nodes));
  same : with_issued (states l.nodes) l.parts (issued (drop l.node-index (states l.nodes)))
      ≡ with_issued (states l.nodes) l.fn.parts (issued (states l.nodes));
  sound : AreSoundBelow (states l.nodes) l.node-index;
  added : l.loads ≡ with_transfers l.fn.loads (transfers (states (take l.node-index l.nodes)));
}
