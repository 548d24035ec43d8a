-- What puts and gets do to the memories (BSPlib, Hill and others 1998: `bsp_put` and `bsp_get` with their buffers, which take
-- effect at `bsp_sync`: all gets read before any put or get writes). In which order they write where they overlap is an own rule:
-- gets before puts, and then by the caller's rank and the order of issue; a later one counts.
use Rattle.std.specs.Prelude.{◌≡◌, ℕ, ◌+◌, ◌-◌, ◌<◌, ◌≤◌, ◌⊎◌, ◌==◌, Bool, ◌&&◌, nat_le, nat_lt, List, [], ◌++◌, length, map, find, filter}
use Rattle.std.specs.Prelude.{filter_map, reverse, slice_get, slice_index, All, Contains, Option, Some, None}
use Rattle.std.specs.List.{range_with_len, AllPairs}
use Rattle.std.specs.Option.{option_map_or}
use Rattle.node_memory.specs.Bytes.{byte_at, bytes_at}
use Rattle.bsp_slots.specs.declared.area.Area.{Area}
use Rattle.bsp_requests.specs.Request.{Asked, asks_put, asks_get, asks_send}
use Rattle.bsp_requests.specs.declared.request.Get.{Get}
use Rattle.bsp_requests.specs.Put.{Put}
use Rattle.node_core.specs.Node.{NodeState}
use Rattle.bsp_exchange.specs.Areas.{area_at}
use Rattle.bsp_exchange.specs.Issued.{issued}

-- which of two landings is the later: `kind` is 0 for a get and 1 for a put; then the caller's rank, then the issue number
pub record Key : Type 0 where
  pub kind : ℕ
  pub caller : ℕ
  pub issue : ℕ

abbrev pub get_key : ℕ → ℕ → Key
get_key caller issue = record { kind = 0; caller = caller; issue = issue }

abbrev pub put_key : ℕ → ℕ → Key
put_key caller issue = record { kind = 1; caller = caller; issue = issue }

-- a key is that of the same landing or of an earlier one
abbrev pub IsAtMost : Key → Key → Type 0
IsAtMost a b =
    (a.kind < b.kind)
    ⊎ ((a.kind ≡ b.kind) × ((a.caller < b.caller) ⊎ ((a.caller ≡ b.caller) × (a.issue ≤ b.issue))))

-- bytes that come to lie in the memory of the node of a rank, from an address on
pub record Landing : Type 0 where
  pub rank : ℕ
  pub addr : ℕ
  pub bytes : List ℕ
  pub key : Key

-- where an area begins (0 where there is none)
abbrev pub area_start : List NodeState → ℕ → ℕ → ℕ
area_start nodes rank slot = option_map_or (λ (area : Area). area.addr) (area_at nodes rank slot) 0

-- the memory of a rank's node (no bytes where there is none)
abbrev pub memory_of : List NodeState → ℕ → List ℕ
memory_of nodes rank = option_map_or (λ (n : NodeState). n.hart.memory) (slice_get nodes rank) []

-- a get lands at its caller, with the bytes that the target has before the exchange
abbrev pub get_landing : List NodeState → ℕ → ℕ → Get → Landing
get_landing nodes caller issue g = record {
  rank = caller;
  addr = g.dst;
  bytes = bytes_at (memory_of nodes g.target) (area_start nodes g.target g.slot + g.offset) g.len;
  key = get_key caller issue;
}

-- a put lands at its target, with the bytes that were copied when it was issued
abbrev pub put_landing : List NodeState → ℕ → ℕ → Put → Landing
put_landing nodes caller issue p = record {
  rank = p.target;
  addr = area_start nodes p.target p.slot + p.offset;
  bytes = p.bytes;
  key = put_key caller issue;
}

abbrev pub landing_of_get : List NodeState → ℕ → ℕ → Asked → Option Landing
landing_of_get nodes caller issue (asks_put p) = None
landing_of_get nodes caller issue (asks_get g) = Some (get_landing nodes caller issue g)
landing_of_get nodes caller issue (asks_send m) = None

abbrev pub landing_of_put : List NodeState → ℕ → ℕ → Asked → Option Landing
landing_of_put nodes caller issue (asks_put p) = Some (put_landing nodes caller issue p)
landing_of_put nodes caller issue (asks_get g) = None
landing_of_put nodes caller issue (asks_send m) = None

-- all landings, in the order of their keys
abbrev pub landings : List NodeState → List Landing
landings nodes =
    filter_map (λ i. landing_of_get nodes i.rank i.issue i.request) (issued nodes)
    ++ filter_map (λ i. landing_of_put nodes i.rank i.issue i.request) (issued nodes)

-- those in the memory of a rank's node
abbrev pub landings_at : List NodeState → ℕ → List Landing
landings_at nodes rank = filter (λ l. l.rank == rank) (landings nodes)

abbrev pub covers : ℕ → Landing → Bool
covers addr l = nat_le l.addr addr && nat_lt addr (l.addr + length l.bytes)

-- a landing's byte at an address that it covers
abbrev pub landing_byte : ℕ → Landing → ℕ
landing_byte addr l = slice_index l.bytes (addr - l.addr)

-- a memory's byte at an address after landings that come in this order: that of the last one that covers the address, or else the
-- byte that was there
abbrev pub landed_byte : List Landing → List ℕ → ℕ → ℕ
landed_byte all memory addr = option_map_or (landing_byte addr) (find (covers addr) (reverse all)) (byte_at memory addr)

-- a memory after landings that come in this order
abbrev pub memory_after : List Landing → List ℕ → List ℕ
memory_after all memory = map (landed_byte all memory) (range_with_len 0 (length memory))

-- no landing comes before one that is earlier by its key
abbrev pub KeysDoNotFall : List Landing → Type 0
KeysDoNotFall all = AllPairs (λ (a b : Landing). IsAtMost a.key b.key) all

-- landings with one key are one landing
abbrev pub HaveOwnKeys : List Landing → Type 0
HaveOwnKeys all = (a b : Landing) → Contains all a → Contains all b → a.key ≡ b.key → a ≡ b

-- two lists of the same landings, in whatever order and however often
abbrev pub AreSameLandings : List Landing → List Landing → Type 0
AreSameLandings a b = All (Contains a) b × All (Contains b) a
