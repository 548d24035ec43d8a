-- The exchange, node by node: a part for each rank, with all that lands in its node. What is in it is gathered before anything
-- lands, so that it rests on no other node any more. BSPlib (Hill and others, 1998: `bsp_sync`) says what stands after the exchange;
-- by whom and when its parts land is left open there, and has no part in the definitions of it either.
use Rattle.std.specs.Prelude.{◌≡◌, ℕ, false, true, suc, zero, Bool, List, [], ◌∷◌, length, map, All, None, IsTrue, sum_by}
use Rattle.std.specs.List.{fold, range_with_len, AllZip}
use Rattle.node_memory.specs.Bytes.{fits, with_bytes}
use Rattle.node_memory.specs.Pages.{Owns, KeepsPrivate}
use Rattle.bsp_requests.specs.Message.{Message}
use Rattle.bsp_requests.specs.Request.{Asked, asks_put, asks_get, asks_send}
use Rattle.node_core.specs.declared.state.State.TheVariants.{Synced}
use Rattle.node_core.specs.Hart.{IsHart, with_memory}
use Rattle.node_core.specs.Node.{NodeState, PreparedNode}
use Rattle.node_core.specs.Turn.{next_superstep}
use Rattle.bsp_exchange.specs.Exchange.{AreAtSync}
use Rattle.bsp_exchange.specs.Faults.{exchange_fault}
use Rattle.bsp_exchange.specs.Landings.{Landing, landings_at}
use Rattle.bsp_exchange.specs.Queues.{queue_after}

-- bytes for one memory, from an address on
pub record Patch : Type 0 where
  pub addr : ℕ
  pub bytes : List ℕ

abbrev pub patch_of : Landing → Patch
patch_of l = record { addr = l.addr; bytes = l.bytes }

-- a memory with patches laid over it, one after another
abbrev pub laid : List ℕ → List Patch → List ℕ
laid memory [] = memory
laid memory (p ∷ patches) = laid (with_bytes memory p.addr p.bytes) patches

abbrev pub with_patches : List Patch → NodeState → NodeState
with_patches patches n = record n { hart = with_memory (laid n.hart.memory patches) n.hart }

-- how many bytes they are
abbrev pub bytes_in : List Patch → ℕ
bytes_in patches = sum_by (λ (p : Patch). length p.bytes) patches

-- each of them lies in a memory of so many bytes
abbrev pub LieIn : ℕ → List Patch → Type 0
LieIn size [] = Unit {0}
LieIn size (p ∷ patches) = IsTrue (fits size p.addr (length p.bytes)) × LieIn size patches

-- the pages of each of them are private
abbrev pub OwnsEach : List Bool → List Patch → Type 0
OwnsEach private [] = Unit {0}
OwnsEach private (p ∷ patches) = Owns private p.addr (length p.bytes) × OwnsEach private patches

-- the same nodes by their number, and what was private is private still
abbrev pub EachKeepsPrivate : List PreparedNode → List PreparedNode → Type 0
EachKeepsPrivate old new = AllZip (λ (p q : PreparedNode). KeepsPrivate p.private q.private) old new

-- what the node of a rank receives: bytes, in the order in which they are laid over its memory, and its queue for the next
-- superstep. It lands once, and is spent then
pub record PartState : Type 0 where
  pub rank : ℕ
  pub spent : Bool
  pub patches : List Patch
  pub queue : List Message

-- the part of a rank's node in the exchange among `nodes`: its landings, in the order of their keys, and the messages sent to it
abbrev pub part_of : List NodeState → ℕ → PartState
part_of nodes rank = record { rank = rank; spent = false; patches = map patch_of (landings_at nodes rank); queue = queue_after nodes rank }

-- those of all ranks
abbrev pub parts_of : List NodeState → List PartState
parts_of nodes = map (part_of nodes) (range_with_len 0 (length nodes))

-- a part that has landed. The node has its messages then
abbrev pub spent_part : PartState → PartState
spent_part part = record part { spent = true; queue = [] }

-- a node in its next superstep, with what it received
abbrev pub with_part : PartState → NodeState → NodeState
with_part part n = next_superstep part.queue (with_patches part.patches n)

-- the nodes of a row, the part at the place of each landed in it. Those past the parts stay as they are
abbrev pub landed : List PartState → List NodeState → List NodeState
landed [] nodes = nodes
landed (part ∷ parts) [] = []
landed (part ∷ parts) (n ∷ nodes) = with_part part n ∷ landed parts nodes

-- the element at a place changed, if there is one
abbrev pub changed_at : {X : Type 0} → (X → X) → ℕ → List X → List X
changed_at f place [] = []
changed_at f zero (x ∷ xs) = f x ∷ xs
changed_at f (suc place) (x ∷ xs) = x ∷ changed_at f place xs

-- the rank that a request names
abbrev pub target_of : Asked → ℕ
target_of (asks_put p) = p.target
target_of (asks_get g) = g.target
target_of (asks_send m) = m.target

-- a row in which one part has landed, in the node of its rank
abbrev pub landed_in : List NodeState → PartState → List NodeState
landed_in nodes part = changed_at (with_part part) part.rank nodes

-- a row in which parts have landed one after another
abbrev pub landed_in_turn : List NodeState → List PartState → List NodeState
landed_in_turn nodes parts = fold landed_in nodes parts

-- nodes among which the exchange is made: they are at their sync, there is no fault, and each of them is sound
pub record CanExchange (nodes : List NodeState) : Type 0 where
  pub row : AreAtSync nodes
  pub faultless : exchange_fault nodes ≡ None
  pub sound : All (λ (n : NodeState). IsHart n.hart) nodes

-- a node can be prepared for a part: it has not landed yet, and the node has its rank, waits, and has room in its memory for each of
-- the bytes that it receives
pub record CanPrepare (part : PartState) (n : NodeState) : Type 0 where
  pub unspent : part.spent ≡ false
  pub rank : n.hart.rank ≡ part.rank
  pub waiting : n.state ≡ Synced
  pub within : LieIn (length n.hart.memory) part.patches

-- a part can land in a node: it has not landed yet, and the node has its rank, waits, is ready for its turn, and owns the pages
-- into which it receives bytes
pub record CanLand (part : PartState) (p : PreparedNode) : Type 0 where
  pub unspent : part.spent ≡ false
  pub rank : p.node.hart.rank ≡ part.rank
  pub waiting : p.node.state ≡ Synced
  pub ready : IsTrue p.ready
  pub private : OwnsEach p.private part.patches

-- a prepared node after its part has landed
abbrev pub landed_as : PartState → PreparedNode → PreparedNode
landed_as part p = record p { node = with_part part p.node; ready = false }
