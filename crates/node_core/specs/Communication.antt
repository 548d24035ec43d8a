-- How a node takes part in the exchange at the end of a superstep: what it has registered, what it has asked for, and what
-- it received (BSPlib, Hill and others 1998: `bsp_push_reg`, `bsp_pop_reg`, `bsp_put`, `bsp_get`, `bsp_send`,
-- `bsp_set_tagsize`, `bsp_qsize`, `bsp_get_tag`, `bsp_move`).
use Rattle.std.specs.Prelude.{◌≡◌, ℕ, Bool, ◌^◌, ◌<◌, ◌≤◌, List, [], length, All, IsTrue}
use Rattle.node_memory.specs.Bytes.{fits}
use Rattle.bsp_slots.specs.declared.area.Area.{Area}
use Rattle.bsp_slots.specs.Registrations.{Registrations, no_registrations, next_list, IsSound}
use Rattle.bsp_requests.specs.Message.{Message, IsShort}
use Rattle.bsp_requests.specs.Request.{Asked, asks_put, asks_get, asks_send}
use Rattle.bsp_requests.specs.Requests.{Requests, no_requests, IsWithinLimits}

pub record Communication : Type 0 where
  -- the areas in effect, and the pushes and pops of this superstep
  pub registrations : Registrations
  -- the puts, gets and sends of this superstep in issue order, and its output
  pub requests : Requests
  -- the messages that it has not moved yet, the first one first
  pub queue : List Message
  -- how many bytes a tag has, in this superstep and in the next
  pub tag_size : ℕ
  pub next_tag_size : ℕ

-- own limit: the bytes of a tag
abbrev pub max_tag_size : ℕ
max_tag_size = 4096

-- an area lies in a memory of `size` bytes
abbrev pub LiesIn : ℕ → Area → Type 0
LiesIn size area = IsTrue (fits size area.addr area.size)

-- a request names one of `nprocs` ranks, and a put and a get one of `places` places of the list in effect; what a get
-- fetches has room in a memory of `size` bytes. Whether it lies in the target's area is not said here
abbrev pub IsWellAddressed : ℕ → ℕ → ℕ → Asked → Type 0
IsWellAddressed nprocs places size (asks_put p) = (p.target < nprocs) × (p.slot < places)
IsWellAddressed nprocs places size (asks_get g) = (g.target < nprocs) × (g.slot < places) × IsTrue (fits size g.dst g.len)
IsWellAddressed nprocs places size (asks_send m) = m.target < nprocs

-- what calls keep true, in a machine of `nprocs` nodes, for a node with `size` bytes of memory. That a queue has fewer than
-- 2 ^ 41 messages, each of at most 2 ^ 30 bytes, is an own limit
pub record IsCommunication (nprocs size : ℕ) (c : Communication) : Type 0 where
  pub registrations : IsSound c.registrations
  pub areas : All (LiesIn size) c.registrations.in_effect
  pub next_areas : All (LiesIn size) (next_list c.registrations)
  pub requests : IsWithinLimits c.requests
  pub targets : All (IsWellAddressed nprocs (length c.registrations.in_effect) size) c.requests.requests
  pub few : length c.queue < 2 ^ 41
  pub short : All IsShort c.queue
  pub tag_size : c.tag_size ≤ max_tag_size
  pub next_tag_size : c.next_tag_size ≤ max_tag_size

-- its registrations and its requests have the limits of a large machine, or those of any other
abbrev pub HasLimits : Bool → Communication → Type 0
HasLimits large c = (c.registrations.large ≡ large) × (c.requests.large ≡ large)

-- nothing registered, asked for or received, and tags of no bytes
abbrev pub no_communication : Bool → Communication
no_communication large = record {
  registrations = no_registrations large;
  requests = no_requests large;
  queue = [];
  tag_size = 0;
  next_tag_size = 0;
}
