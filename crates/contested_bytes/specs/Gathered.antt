-- The landings of a superstep as the code gathers them: request by request. The definitions of contested bytes do not rest on this.
use Rattle.std.specs.Prelude.{ℕ, ◌+◌, ◌≤◌, ◌^◌, List, filter_map, Option, Some, None}
use Rattle.bsp_requests.specs.Request.{Asked, asks_put, asks_get, asks_send}
use Rattle.node_core.specs.Node.{NodeState}
use Rattle.bsp_exchange.specs.Issued.{Issued}
use Rattle.bsp_exchange.specs.Landings.{Landing, get_landing, put_landing}

-- what a request lands
abbrev pub landing_of : List NodeState → ℕ → ℕ → Asked → Option Landing
landing_of nodes caller issue (asks_put p) = Some (put_landing nodes caller issue p)
landing_of nodes caller issue (asks_get g) = Some (get_landing nodes caller issue g)
landing_of nodes caller issue (asks_send m) = None

abbrev pub landings_of : List NodeState → List Issued → List Landing
landings_of nodes requests = filter_map (λ (i : Issued). landing_of nodes i.rank i.issue i.request) requests

-- what a get fetches has room in a memory
abbrev pub HasRoom : Asked → Type 0
HasRoom (asks_put p) = Unit {0}
HasRoom (asks_get g) = g.dst + g.len ≤ 2 ^ 31
HasRoom (asks_send m) = Unit {0}
