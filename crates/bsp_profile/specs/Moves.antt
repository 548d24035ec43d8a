-- What one superstep was for each rank: its work, and its part of the exchange (BSP, Valiant 1990: the local work of a processor, and
-- what it sends and receives in an h-relation). The bytes to others and from others are those of which h is made; what a rank keeps is
-- told apart. That, and what is counted beside the bytes, are own rules.
use Rattle.std.specs.Prelude.{ℕ, ◌-◌, ◌==◌, ◌&&◌, not, Bool, List, [], length, map, filter, sum_by, zip, if◌then◌else◌}
use Rattle.std.specs.List.{range_with_len}
use Rattle.bsp_requests.specs.Message.{Message}
use Rattle.node_core.specs.Node.{NodeState}
use Rattle.bsp_exchange.specs.Queues.{from_others, queue_after}
use Rattle.bsp_exchange.specs.Traffic.{Transfer, transfers}
use Rattle.machine_core.specs.Machine.{MachineState}
use Rattle.machine_core.specs.Turn.{makes_exchange}
use Rattle.bsp_profile.specs.declared.row.Row.{Row}

-- what the exchange at the end of the superstep moves: nothing where none is made
abbrev pub moves : List NodeState → List Transfer
moves nodes = if makes_exchange nodes then transfers nodes else []

-- the messages that a rank finds after that exchange: none where none is made
abbrev pub arrivals : List NodeState → ℕ → List Message
arrivals nodes rank = if makes_exchange nodes then queue_after nodes rank else []

abbrev pub goes : ℕ → ℕ → Transfer → Bool
goes from to t = t.from == from && t.to == to

-- the bytes that go from one rank to another, or to itself
abbrev pub moved : List Transfer → ℕ → ℕ → ℕ
moved ts from to = sum_by (λ (t : Transfer). t.bytes) (filter (goes from to) ts)

-- the ranks of so many nodes but this one
abbrev pub others : ℕ → ℕ → List ℕ
others count rank = filter (λ k. not (k == rank)) (range_with_len 0 count)

-- the bytes that go from a rank to the others, and those that come from them
abbrev pub moved_out : ℕ → List Transfer → ℕ → ℕ
moved_out count ts rank = sum_by (λ to. moved ts rank to) (others count rank)

abbrev pub moved_in : ℕ → List Transfer → ℕ → ℕ
moved_in count ts rank = sum_by (λ from. moved ts from rank) (others count rank)

-- the row of a node that had made so many ticks when the superstep began
abbrev pub row_of : MachineState → NodeState × ℕ → Row
row_of m at = record {
  superstep = m.exchanges;
  rank = at.0.hart.rank;
  ticks = at.0.ticks - at.1;
  sent = moved_out (length m.nodes) (moves m.nodes) at.0.hart.rank;
  received = moved_in (length m.nodes) (moves m.nodes) at.0.hart.rank;
  kept = moved (moves m.nodes) at.0.hart.rank at.0.hart.rank;
  messages = length (from_others at.0.hart.rank (arrivals m.nodes at.0.hart.rank));
  requests = length at.0.hart.communication.requests.requests;
  state = at.0.state;
}

-- the rows of a superstep none of whose nodes runs any more, before its turn
abbrev pub rows : MachineState → List Row
rows m = map (row_of m) (zip m.nodes m.started)
