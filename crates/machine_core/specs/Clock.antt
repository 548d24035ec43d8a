-- The clocks of a machine's nodes: what the supersteps cost that are over (the cost model of BSPlib, Hill and others 1998) is set on them
-- as a superstep begins (own rule).
use Rattle.std.specs.Prelude.{◌≡◌, ℕ, List, map, slice_get, Option, option_map}
use Rattle.std.specs.Option.{option_map_or}
use Rattle.node_core.specs.declared.clock.Clock.{Clock}
use Rattle.node_core.specs.Node.{NodeState, with_clock}
use Rattle.cost_ledger.specs.declared.CostRow.{CostRow}
use Rattle.cost_ledger.specs.CostRow.{total_in}
use Rattle.machine_core.specs.declared.settings.Prices.{Prices}

-- what these supersteps cost at the prices of clocks, if there are any
abbrev pub closed_by : Option Prices → List CostRow → Option ℕ
closed_by prices rows = option_map (λ p. total_in p.ledger p.g p.l rows) prices

-- nodes that begin a superstep after these, each with a clock that counts on from their cost. Without prices they have no clocks
abbrev pub with_clocks : Option Prices → List CostRow → List NodeState → List NodeState
with_clocks prices rows nodes = map (with_clock (closed_by prices rows)) nodes

-- a node has such a clock, and began the superstep with so many ticks
abbrev pub HasClock : Option Prices → List CostRow → NodeState → ℕ → Type 0
HasClock prices rows n started = n.clock ≡ option_map (λ cost. record { closed = cost; since = started }) (closed_by prices rows)

-- what the first clock of a row counts on from, or 0 where there is none
abbrev pub first_closed : List NodeState → ℕ
first_closed nodes = option_map_or (λ (n : NodeState). option_map_or (λ (c : Clock). c.closed) n.clock 0) (slice_get nodes 0) 0
