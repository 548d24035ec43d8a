-- What is gathered, and what the nodes from this one on land, are the landings of all.
use Rattle.std.proofs.Common.{◌≡◌, drop, None}
use Rattle.bsp_exchange.specs.Exchange.{states}
use Rattle.bsp_exchange.specs.Faults.{first_outside}
use Rattle.bsp_exchange.specs.Issued.{issued}
use Rattle.contested_bytes.specs.Gathered.{landings_of}
use Rattle.contested_bytes.proofs.Requested.{gathered_rest}
use Rattle.contested_bytes.proofs.gather.landings.Given as goal

-- what is gathered, and what the nodes from this one on land
abbrev pub invariant-loop-node : goal.invariant-loop-node
invariant-loop-node g l = record {
  inside : first_outside (states l.nodes) (issued (drop l.node-index (states l.nodes))) ≡ None;
  same : gathered_rest (states l.nodes) l.nodes l.node-index l.all.items ≡ landings_of (states l.nodes) (issued (states l.nodes));
}
