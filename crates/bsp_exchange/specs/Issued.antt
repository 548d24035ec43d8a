-- All requests of a superstep in one order (own rule: BSPlib, Hill and others 1998, leaves it open): by the ranks of the nodes that
-- issued them, and those of one node in issue order.
use Rattle.std.specs.Prelude.{ℕ, List, map, flat_map}
use Rattle.std.specs.List.{enumerate_from}
use Rattle.bsp_requests.specs.Request.{Asked}
use Rattle.node_core.specs.Node.{NodeState}

-- a request, the rank of the node that issued it, and its number among those of that node, from 0: puts, gets and sends count
-- together
pub record Issued : Type 0 where
  pub rank : ℕ
  pub issue : ℕ
  pub request : Asked

abbrev pub issued_as : ℕ → ℕ × Asked → Issued
issued_as rank numbered = record { rank = rank; issue = numbered.0; request = numbered.1 }

-- the requests of one node
abbrev pub issued_by : NodeState → List Issued
issued_by n = map (issued_as n.hart.rank) (enumerate_from 0 n.hart.communication.requests.requests)

abbrev pub issued : List NodeState → List Issued
issued nodes = flat_map issued_by nodes
