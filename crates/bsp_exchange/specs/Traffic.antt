-- How much an exchange moves: the h of its h-relation (BSP, Valiant 1990: the most that any processor sends or receives), here in the
-- bytes that go between ranks, and the most messages that any receives from others. Tags count with payloads. What a node moves to
-- itself counts in `h_all` alone (own rules).
use Rattle.std.specs.Prelude.{ℕ, ◌==◌, not, max, List, map, filter, sum_by}
use Rattle.std.specs.List.{fold}
use Rattle.bsp_requests.specs.Request.{Asked, asks_put, asks_get, asks_send, size_of}
use Rattle.node_core.specs.Node.{NodeState}
use Rattle.bsp_exchange.specs.declared.traffic.Traffic.{Traffic}
use Rattle.bsp_exchange.specs.Issued.{issued}

-- the bytes of one request, which go from one rank to another, or to itself; and 1 where they are a message, else 0
pub record Transfer : Type 0 where
  pub from : ℕ
  pub to : ℕ
  pub bytes : ℕ
  pub messages : ℕ

-- a put and a send go from their caller to their target, a get from its target to its caller; a send is a message
abbrev pub transfer : ℕ → Asked → Transfer
transfer caller (asks_put p) = record { from = caller; to = p.target; bytes = size_of (asks_put p); messages = 0 }
transfer caller (asks_get g) = record { from = g.target; to = caller; bytes = size_of (asks_get g); messages = 0 }
transfer caller (asks_send m) = record { from = caller; to = m.target; bytes = size_of (asks_send m); messages = 1 }

abbrev pub transfers : List NodeState → List Transfer
transfers nodes = map (λ i. transfer i.rank i.request) (issued nodes)

-- those that leave their rank
abbrev pub between_ranks : List Transfer → List Transfer
between_ranks ts = filter (λ (t : Transfer). not (t.from == t.to)) ts

abbrev pub bytes_sent : List Transfer → ℕ → ℕ
bytes_sent ts rank = sum_by (λ (t : Transfer). t.bytes) (filter (λ (t : Transfer). t.from == rank) ts)

abbrev pub bytes_received : List Transfer → ℕ → ℕ
bytes_received ts rank = sum_by (λ (t : Transfer). t.bytes) (filter (λ (t : Transfer). t.to == rank) ts)

abbrev pub messages_received : List Transfer → ℕ → ℕ
messages_received ts rank = sum_by (λ (t : Transfer). t.messages) (filter (λ (t : Transfer). t.to == rank) ts)

-- the greatest, over the ranks of all nodes, of a number that each rank has
abbrev pub most : (ℕ → ℕ) → List NodeState → ℕ
most of_rank nodes = fold max 0 (map (λ n. of_rank n.hart.rank) nodes)

-- the h of the relation that transfers make among nodes: the greatest of the larger of what a node sends and what it receives
abbrev pub h_relation : List Transfer → List NodeState → ℕ
h_relation ts nodes = most (λ rank. max (bytes_sent ts rank) (bytes_received ts rank)) nodes

-- h is that of the transfers between ranks, and h_all that of all transfers
abbrev pub h_of : List NodeState → ℕ
h_of nodes = h_relation (between_ranks (transfers nodes)) nodes

abbrev pub h_all_of : List NodeState → ℕ
h_all_of nodes = h_relation (transfers nodes) nodes

-- the most messages that a node receives from others
abbrev pub messages_of : List NodeState → ℕ
messages_of nodes = most (messages_received (between_ranks (transfers nodes))) nodes

-- all three
abbrev pub traffic_of : List NodeState → Traffic
traffic_of nodes = record { h = h_of nodes; h_all = h_all_of nodes; messages = messages_of nodes }
