-- What each node sends and receives in an exchange, added up transfer by transfer. The definitions of h do not rest on this: it is what
-- the code keeps, from which both readings of h can be had in one pass.
use Rattle.std.specs.Prelude.{ℕ, ◌+◌, ◌≤◌, ◌==◌, max, List, map, if◌then◌else◌}
use Rattle.std.specs.List.{fold}
use Rattle.bsp_requests.specs.Request.{Asked}
use Rattle.bsp_exchange.specs.declared.traffic.Load.{Load}
use Rattle.bsp_exchange.specs.declared.traffic.Traffic.{Traffic}
use Rattle.bsp_exchange.specs.Parts.{changed_at}
use Rattle.bsp_exchange.specs.Traffic.{Transfer, transfer}

abbrev pub no_load : Load
no_load = record { sent = 0; received = 0; kept = 0; messages = 0 }

abbrev pub with_sent : ℕ → Load → Load
with_sent bytes l = record l { sent = l.sent + bytes }

abbrev pub with_received : ℕ → ℕ → Load → Load
with_received bytes messages l = record l { received = l.received + bytes; messages = l.messages + messages }

abbrev pub with_kept : ℕ → Load → Load
with_kept bytes l = record l { kept = l.kept + bytes }

-- the loads of all ranks when a transfer is added: what a rank moves to itself is kept apart
abbrev pub with_transfer : List Load → Transfer → List Load
with_transfer loads t =
    if t.from == t.to then changed_at (with_kept t.bytes) t.from loads
    else changed_at (with_received t.bytes t.messages) t.to (changed_at (with_sent t.bytes) t.from loads)

abbrev pub with_transfers : List Load → List Transfer → List Load
with_transfers loads ts = fold with_transfer loads ts

-- the transfers that a node's requests ask for
abbrev pub transfers_of : ℕ → List Asked → List Transfer
transfers_of caller requests = map (transfer caller) requests

-- none of its numbers is more
pub record IsWithin (most : ℕ) (l : Load) : Type 0 where
  pub sent : l.sent ≤ most
  pub received : l.received ≤ most
  pub kept : l.kept ≤ most
  pub messages : l.messages ≤ most

-- the larger of what goes to others and what comes from others
abbrev pub larger : Load → ℕ
larger l = max l.sent l.received

-- the same where what is kept counts as sent and as received
abbrev pub larger_all : Load → ℕ
larger_all l = larger l + l.kept

-- the greatest of a number that each load has, 0 where there is none
abbrev pub greatest_of : (Load → ℕ) → List Load → ℕ
greatest_of number loads = fold (λ most l. max most (number l)) 0 loads

abbrev pub greatest : List Load → Traffic
greatest loads = record {
  h = greatest_of larger loads;
  h_all = greatest_of larger_all loads;
  messages = greatest_of (λ l. l.messages) loads;
}
