-- What the code keeps of an exchange before it is made: cells for the bytes between each two ranks and for the messages of each. The
-- definitions of a profile do not rest on this.
use Rattle.std.specs.Prelude.{◌≡◌, ℕ, ◌+◌, ◌*◌, ◌^◌, ◌<◌, ◌≤◌, ◌==◌, List, length, slice_index, sum_by, if◌then◌else◌}
use Rattle.bsp_requests.specs.Request.{Asked, asks_put, asks_get, asks_send}
use Rattle.node_core.specs.Hart.{IsHart, max_nodes}
use Rattle.node_core.specs.Node.{NodeState}
use Rattle.bsp_exchange.specs.Queues.{from_others}
use Rattle.bsp_exchange.specs.Traffic.{Transfer, transfer}
use Rattle.bsp_profile.specs.Moves.{moved, moves, arrivals}

-- the place of a cell in a table of so many columns. Its first row is for messages, and each further one for a rank's bytes
abbrev pub place : ℕ → ℕ → ℕ → ℕ
place count row column = row * count + column

-- what the bytes of a transfer add to a cell, whatever its messages
abbrev pub bytes_added : ℕ → ℕ → Transfer → ℕ
bytes_added count cell t = if place count (t.from + 1) t.to == cell then t.bytes else 0

-- what a message adds that a rank sends to another
abbrev pub message_added : ℕ → ℕ → ℕ → ℕ
message_added cell caller target = if target == caller then 0 else (if target == cell then 1 else 0)

abbrev pub messages_added : ℕ → ℕ → Asked → ℕ
messages_added cell caller (asks_put p) = 0
messages_added cell caller (asks_get g) = 0
messages_added cell caller (asks_send m) = message_added cell caller m.target

-- what a request adds to a cell
abbrev pub added : ℕ → ℕ → ℕ → Asked → ℕ
added count cell caller q = bytes_added count cell (transfer caller q) + messages_added cell caller q

-- what all requests of a node add
abbrev pub added_by : ℕ → ℕ → NodeState → ℕ
added_by count cell n = sum_by (added count cell n.hart.rank) n.hart.communication.requests.requests

-- no cell has more
abbrev pub IsWithin : ℕ → List ℕ → Type 0
IsWithin most cells = (k : ℕ) → k < length cells → slice_index cells k ≤ most

-- a node of so many
pub record IsNodeAmong (count : ℕ) (n : NodeState) : Type 0 where
  pub hart : IsHart n.hart
  pub nprocs : n.hart.nprocs ≡ count

-- the cells tell what an exchange among nodes moves
pub record Tells (nodes : List NodeState) (count : ℕ) (cells : List ℕ) : Type 0 where
  pub long : length nodes ≡ count
  pub few : count ≤ max_nodes
  pub size : length cells ≡ (count + 1) * count
  pub bytes : (from to : ℕ) → from < count → to < count → slice_index cells (place count (from + 1) to) ≡ moved (moves nodes) from to
  pub messages : (rank : ℕ) → rank < count → slice_index cells rank ≡ length (from_others rank (arrivals nodes rank))
  pub bounded : IsWithin (2 ^ 47) cells
