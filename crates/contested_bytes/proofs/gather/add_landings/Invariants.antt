-- What is gathered, and what the requests from this one on land, are all that the node's requests land.
use Rattle.std.proofs.Common.{◌≡◌, ◌++◌, None}
use Rattle.bsp_exchange.specs.Exchange.{states}
use Rattle.bsp_exchange.specs.Faults.{first_outside}
use Rattle.bsp_exchange.specs.Issued.{issued_by}
use Rattle.bsp_exchange.proofs.Finds.{issued_from}
use Rattle.contested_bytes.specs.Gathered.{landings_of}
use Rattle.contested_bytes.proofs.Requested.{gathered_from}
use Rattle.contested_bytes.proofs.gather.add_landings.Given as goal

-- what is gathered, and what the requests from this one on land
abbrev pub invariant-loop-issue : goal.invariant-loop-issue
invariant-loop-issue g l = record {
  inside : first_outside (states l.nodes) (issued_from l.node.node l.issue) ≡ None;
  same : gathered_from (states l.nodes) l.node.node l.issue l.all.items ≡ l.fn.all.items ++ landings_of (states l.nodes)
      (issued_by l.node.node);
}
