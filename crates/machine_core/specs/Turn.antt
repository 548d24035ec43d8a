-- The superstep and what it costs (BSP, Valiant 1990: the local work of every node, and then one exchange, an h-relation; BSPlib,
-- Hill and others 1998: `bsp_sync`). How a machine ends, in which order that is found out, and that w counts ticks and h bytes, are
-- own rules.
use Rattle.std.specs.Prelude.{◌≡◌, ℕ, ◌+◌, ◌-◌, max, Bool, true, false, List, [], ◌∷◌, ◌++◌, map, flat_map, find, zip, if◌then◌else◌}
use Rattle.std.specs.Prelude.{Option, Some, None, IsSome, is_some, is_none, option_map}
use Rattle.std.specs.Fn.{iterate}
use Rattle.std.specs.List.{fold}
use Rattle.std.specs.Option.{option_or}
use Rattle.node_core.specs.declared.state.State.{State}
use Rattle.node_core.specs.declared.state.State.TheVariants.{Running, Synced, Ended, Aborted, Exhausted, Faulted}
use Rattle.node_core.specs.Node.{NodeState, phase}
use Rattle.bsp_exchange.specs.Exchange.{exchanged}
use Rattle.bsp_exchange.specs.Faults.{exchange_fault}
use Rattle.bsp_exchange.specs.Traffic.{traffic_of}
use Rattle.bsp_exchange.specs.declared.traffic.Traffic.{Traffic}
use Rattle.cost_ledger.specs.declared.CostRow.{CostRow}
use Rattle.machine_core.specs.declared.outcome.Outcome.{Outcome}
use Rattle.machine_core.specs.declared.outcome.Outcome.TheVariants as outcome
use Rattle.machine_core.specs.Clock.{with_clocks}
use Rattle.machine_core.specs.Machine.{MachineState}

-- stopped by a fault, by its own abort, or by the limit of ticks
abbrev pub was_stopped : State → Bool
was_stopped Running = false
was_stopped Synced = false
was_stopped Ended = false
was_stopped Aborted = true
was_stopped Exhausted = true
was_stopped (Faulted _) = true

-- called `end`
abbrev pub has_ended : State → Bool
has_ended Running = false
has_ended Synced = false
has_ended Ended = true
has_ended Aborted = false
has_ended Exhausted = false
has_ended (Faulted _) = false

-- waits for the end of the superstep
abbrev pub is_waiting : State → Bool
is_waiting Running = false
is_waiting Synced = true
is_waiting Ended = false
is_waiting Aborted = false
is_waiting Exhausted = false
is_waiting (Faulted _) = false

-- the node of the lowest rank that is in such a state
abbrev pub lowest : (State → Bool) → List NodeState → Option NodeState
lowest test nodes = find (λ (n : NodeState). test n.state) nodes

abbrev pub stopped_by : NodeState → Outcome
stopped_by n = outcome.NodeStopped n.hart.rank n.state

-- the outcome of nodes none of which was stopped, by the lowest that ended and the lowest that waits. Those that wait for one that
-- ended wait in vain; where none waits, all ended (there is at least one node); and where none ended, an exchange that has a fault is
-- refused
abbrev pub outcome_unstopped : Option NodeState → Option NodeState → List NodeState → Option Outcome
outcome_unstopped (Some ended) (Some waiting) nodes = Some (outcome.Desync ended.hart.rank waiting.hart.rank)
outcome_unstopped (Some ended) None nodes = Some outcome.Ended
outcome_unstopped None waiting nodes = option_map outcome.Refused (exchange_fault nodes)

-- the outcome of nodes none of which runs, where there is one: that of the lowest that was stopped comes first
abbrev pub outcome_of : List NodeState → Option Outcome
outcome_of nodes =
    option_or (option_map stopped_by (lowest was_stopped nodes))
    (outcome_unstopped (lowest has_ended nodes) (lowest is_waiting nodes) nodes)

-- the exchange is made where there is no outcome
abbrev pub makes_exchange : List NodeState → Bool
makes_exchange nodes = is_none (outcome_of nodes)

-- what the nodes wrote in this superstep, rank by rank
abbrev pub written : List NodeState → List ℕ
written nodes = flat_map (λ (n : NodeState). n.hart.communication.requests.output) nodes

-- the most ticks that one of some nodes made, of which each had made so many before
abbrev pub most_ticks : List NodeState → List ℕ → ℕ
most_ticks nodes started = fold max 0 (map (λ (at : NodeState × ℕ). at.0.ticks - at.1) (zip nodes started))

-- the most ticks that a node made in this superstep
abbrev pub work : MachineState → ℕ
work m = most_ticks m.nodes m.started

-- nothing is moved
abbrev pub no_traffic : Traffic
no_traffic = record { h = 0; h_all = 0; messages = 0 }

-- what the exchange at the end of this superstep moves. Requests count only where it is made
abbrev pub traffic : MachineState → Traffic
traffic m = if makes_exchange m.nodes then traffic_of m.nodes else no_traffic

-- the cost of this superstep
abbrev pub cost_row : MachineState → CostRow
cost_row m = record {
  w = work m;
  h = (traffic m).h;
  h_all = (traffic m).h_all;
  messages = (traffic m).messages;
  turned = makes_exchange m.nodes;
}

-- a machine with the output and the cost of this superstep
abbrev pub recorded : MachineState → MachineState
recorded m = record m { output = m.output ++ written m.nodes; ledger = m.ledger ++ cost_row m ∷ [] }

-- a machine after the exchange, in its next superstep. It has the cost of this one in its ledger, and clocks count on from there
abbrev pub with_exchange : MachineState → MachineState
with_exchange m = record m {
  nodes = with_clocks m.settings.clock m.ledger (exchanged m.nodes);
  started = map (λ (n : NodeState). n.ticks) m.nodes;
  exchanges = m.exchanges + 1;
}

-- a machine with an outcome, which leaves its nodes as they are, with what they wrote and asked for, or after the exchange where
-- there is none
abbrev pub decided : Option Outcome → MachineState → MachineState
decided (Some end) m = record m { outcome = Some end }
decided None m = with_exchange m

-- a machine none of whose nodes runs, after the turn that ends the superstep
unfoldable pub turned : MachineState → MachineState
turned m = decided (outcome_of m.nodes) (recorded m)

-- a machine each of whose nodes has made its local part of the superstep
abbrev pub with_phases : MachineState → MachineState
with_phases m = record m { nodes = map (phase m.input) m.nodes }

-- a machine after one superstep; one that has its outcome stays as it is
unfoldable pub superstep : MachineState → MachineState
superstep m = if is_some m.outcome then m else turned (with_phases m)

-- a machine at its end. Each exchange costs every node a tick, so that one superstep more than a node may make ticks is enough
unfoldable pub end_of : MachineState → MachineState
end_of m = iterate superstep (m.settings.limit + 1) m

-- a machine was run to its end, and has its outcome there
pub record IsRunToEnd (old new : MachineState) : Type 0 where
  pub end : new ≡ end_of old
  pub over : IsSome new.outcome
