-- Which bytes rest on an order that BSPlib leaves open (Hill and others 1998: `bsp_put`, `bsp_get` and `bsp_sync`). The buffered calls take
-- effect at the end of the superstep: all gets read before anything is written. In which order puts write, and gets what they
-- read, is not defined where they overlap, whoever asked for them: neither for two requests of one process, nor for a put and a get. So
-- each order of what lands is allowed. A put or a get lands as a whole here, with no other between its bytes. A library may mix the bytes
-- of two; then each byte is still that of one landing.
use Rattle.std.specs.Prelude.{◌≡◌, ◌≢◌, ℕ, ◌==◌, Bool, ◌&&◌, IsTrue, IsPermutation, List, map, filter, Contains}
use Rattle.node_memory.specs.Bytes.{byte_at}
use Rattle.node_core.specs.Hart.{with_memory}
use Rattle.node_core.specs.Node.{NodeState}
use Rattle.node_core.specs.Turn.{next_superstep}
use Rattle.bsp_exchange.specs.Landings.{Landing, covers, landing_byte, landings, memory_after, memory_of}
use Rattle.bsp_exchange.specs.Queues.{queue_after}

-- a landing brings a byte to an address of a rank's memory
abbrev pub reaches : ℕ → ℕ → Landing → Bool
reaches rank addr l = l.rank == rank && covers addr l

-- two landings bring different bytes to it
pub record Differ (rank addr : ℕ) (a b : Landing) : Type 0 where
  pub first : IsTrue (reaches rank addr a)
  pub second : IsTrue (reaches rank addr b)
  pub bytes : landing_byte addr a ≢ landing_byte addr b

-- a byte is contested among landings: two of them bring it different bytes
abbrev pub IsContested : List Landing → ℕ → ℕ → Type 0
IsContested all rank addr = (a b : Landing) × Contains all a × Contains all b × Differ rank addr a b

-- else it is settled
abbrev pub IsSettled : List Landing → ℕ → ℕ → Type 0
IsSettled all rank addr = IsContested all rank addr → ⊥

-- so is each byte of each memory
abbrev pub AreSettled : List Landing → Type 0
AreSettled all = (rank addr : ℕ) → IsSettled all rank addr

-- an order of landings that BSPlib allows
abbrev pub IsAllowedOrder : List Landing → List Landing → Type 0
IsAllowedOrder all order = IsPermutation all order

-- the memory of a rank after landings that come in this order
abbrev pub memory_in : List Landing → ℕ → List ℕ → List ℕ
memory_in order rank memory = memory_after (filter (λ l. l.rank == rank) order) memory

-- a node, and a row of nodes, after the exchange among them in which landings come in this order
abbrev pub exchanged_node_in : List Landing → List NodeState → NodeState → NodeState
exchanged_node_in order nodes n =
    next_superstep (queue_after nodes n.hart.rank) (record n { hart = with_memory (memory_in order n.hart.rank n.hart.memory) n.hart })

abbrev pub exchanged_in : List Landing → List NodeState → List NodeState
exchanged_in order nodes = map (exchanged_node_in order nodes) nodes

-- a byte may lie at an address of a rank's memory after the exchange among nodes: it does so in one of the orders that BSPlib allows
abbrev pub MayLie : List NodeState → ℕ → ℕ → ℕ → Type 0
MayLie nodes rank addr byte =
    (order : List Landing) × IsAllowedOrder (landings nodes) order × (byte_at (memory_of (exchanged_in order nodes) rank) addr ≡ byte)
