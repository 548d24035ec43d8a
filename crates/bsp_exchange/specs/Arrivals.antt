-- What arrives at each node in an exchange, gathered request by request before anything lands. The exchange's definitions do not
-- rest on this: it is what the code keeps of them, gets and puts apart.
use Rattle.std.specs.Prelude.{◌≡◌, ℕ, false, ◌+◌, ◌==◌, List, [], ◌∷◌, ◌++◌, length, map, filter, filter_map, IsTrue}
use Rattle.std.specs.List.{fold}
use Rattle.node_memory.specs.Bytes.{bytes_at}
use Rattle.bsp_requests.specs.declared.request.Get.{Get}
use Rattle.bsp_requests.specs.Message.{Message}
use Rattle.bsp_requests.specs.Outgoing.{Outgoing}
use Rattle.bsp_requests.specs.Inbox.{IsQueue}
use Rattle.bsp_requests.specs.Request.{Asked, asks_put, asks_get, asks_send}
use Rattle.node_core.specs.declared.state.State.TheVariants.{Synced}
use Rattle.node_core.specs.Node.{NodeState, PreparedNode}
use Rattle.node_core.specs.Turn.{next_superstep}
use Rattle.bsp_exchange.specs.declared.landings.Range.{Range}
use Rattle.bsp_exchange.specs.declared.landings.Landings.TheInside.{Inside}
use Rattle.bsp_exchange.specs.Issued.{Issued, issued}
use Rattle.bsp_exchange.specs.Landings.{area_start, memory_of, landing_of_get, landing_of_put}
use Rattle.bsp_exchange.specs.Parts.{Patch, PartState, OwnsEach, changed_at, patch_of, with_patches}
use Rattle.bsp_exchange.specs.Queues.{queue_after}
pub use Rattle.bsp_exchange.specs.Parts.{LieIn}

-- the patches whose bytes stand in one list, each from its range's start on
abbrev pub patches_of : List Range → List ℕ → List Patch
patches_of ranges bytes = map (λ (r : Range). record { addr = r.addr; bytes = bytes_at bytes r.start r.len }) ranges

abbrev pub patches_view : {A : Type 0} → Inside A → List Patch
patches_view l = patches_of l.ranges.items l.bytes.items

-- ranges stand one after another, the first one from `start` on, and the last one ends at `end`
abbrev pub StandInTurn : List Range → ℕ → ℕ → Type 0
StandInTurn [] start end = start ≡ end
StandInTurn (r ∷ ranges) start end = (r.start ≡ start) × StandInTurn ranges (start + r.len) end

-- the bytes are those of the ranges
abbrev pub AreCovered : {A : Type 0} → Inside A → Type 0
AreCovered l = StandInTurn l.ranges.items 0 (length l.bytes.items)

-- what one node receives: what its gets fetch, what is put into its areas, and the messages that are sent to it
pub record Received : Type 0 where
  pub gets : List Patch
  pub puts : List Patch
  pub messages : List Message

abbrev pub nothing : Received
nothing = record { gets = []; puts = []; messages = [] }

abbrev pub with_get : Patch → Received → Received
with_get p part = record part { gets = part.gets ++ p ∷ [] }

abbrev pub with_put : Patch → Received → Received
with_put p part = record part { puts = part.puts ++ p ∷ [] }

abbrev pub with_message : Message → Received → Received
with_message m part = record part { messages = part.messages ++ m ∷ [] }

-- what a get brings to its caller
abbrev pub fetched : List NodeState → Get → Patch
fetched nodes g = record {
  addr = g.dst;
  bytes = bytes_at (memory_of nodes g.target) (area_start nodes g.target g.slot + g.offset) g.len;
}

-- a send, as its target receives it
abbrev pub message_of : ℕ → Outgoing → Message
message_of sender m = record { sender = sender; tag = m.tag; payload = m.payload }

-- what the nodes receive when a caller's request is added
abbrev pub with_asked : List NodeState → ℕ → List Received → Asked → List Received
with_asked nodes caller parts (asks_put p) =
    changed_at (with_put (record { addr = area_start nodes p.target p.slot + p.offset; bytes = p.bytes })) p.target parts
with_asked nodes caller parts (asks_get g) = changed_at (with_get (fetched nodes g)) caller parts
with_asked nodes caller parts (asks_send m) = changed_at (with_message (message_of caller m)) m.target parts

abbrev pub with_issued : List NodeState → List Received → List Issued → List Received
with_issued nodes parts requests = fold (λ at i. with_asked nodes i.rank at i.request) parts requests

-- what a rank's node receives in the exchange
abbrev pub received_at : List NodeState → ℕ → Received
received_at nodes rank = record {
  gets = map patch_of (filter (λ l. l.rank == rank) (filter_map (λ i. landing_of_get nodes i.rank i.issue i.request) (issued nodes)));
  puts = map patch_of (filter (λ l. l.rank == rank) (filter_map (λ i. landing_of_put nodes i.rank i.issue i.request) (issued nodes)));
  messages = queue_after nodes rank;
}

-- a node's state after what it received
abbrev pub after_landing : Received → NodeState → NodeState
after_landing part n = next_superstep part.messages (with_patches part.puts (with_patches part.gets n))

-- all of it has its place in a memory of so many bytes
pub record FitsIn (size : ℕ) (part : Received) : Type 0 where
  pub gets : LieIn size part.gets
  pub puts : LieIn size part.puts
  pub queue : IsQueue part.messages

-- a node is ready for its turn, and the pages into which it receives bytes are private
pub record IsPrepared (part : Received) (p : PreparedNode) : Type 0 where
  pub ready : IsTrue p.ready
  pub gets : OwnsEach p.private part.gets
  pub puts : OwnsEach p.private part.puts

-- a node, prepared, with all that it received
abbrev pub with_arrivals : Received → PreparedNode → PreparedNode
with_arrivals part p = record p { node = after_landing part p.node; ready = false }

-- a node can take what it received
pub record CanTake (part : Received) (p : PreparedNode) : Type 0 where
  pub waiting : p.node.state ≡ Synced
  pub queue : IsQueue part.messages
  pub prepared : IsPrepared part p

-- what arrives at the node of a rank, as the part of that rank: gets land before puts
abbrev pub part_from : ℕ × Received → PartState
part_from arrived = record {
  rank = arrived.0;
  spent = false;
  patches = arrived.1.gets ++ arrived.1.puts;
  queue = arrived.1.messages;
}
