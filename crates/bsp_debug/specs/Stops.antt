-- Where `Go` stops on its way along the walk of a machine, which is the walk of `machine_core` (own rules).
use Rattle.std.specs.Prelude.{◌≡◌, ℕ, ◌+◌, ◌<◌, List, if◌then◌else◌, Option, Some, None, option_map}
use Rattle.std.specs.Option.{option_or, option_and_then}
use Rattle.node_core.specs.Node.{NodeState, is_running}
use Rattle.machine_core.specs.declared.event.Event.{Event}
use Rattle.machine_core.specs.declared.event.Event.TheVariants.{Step, Turn}
use Rattle.machine_core.specs.Machine.{MachineState}
use Rattle.machine_core.specs.Turn.{lowest}
use Rattle.machine_core.specs.Events.{event}
use Rattle.machine_core.specs.Walk.{next_event, walk, walked}
use Rattle.bsp_debug.specs.declared.point.Point.{Point}
use Rattle.bsp_debug.specs.declared.point.Point.TheVariants.{Address, Superstep}
use Rattle.bsp_debug.specs.Points.{is_set}
use Rattle.bsp_debug.specs.Reply.{Answer, stopped, finished}

-- a stop at a point, if it is set
abbrev pub stop_if_set : List Point → Point → Option Answer
stop_if_set points p = if is_set points p then Some (stopped p) else None

-- the stop that an event leads to as it begins a superstep
abbrev pub superstep_stop : List Point → Event → MachineState → Option Answer
superstep_stop points Turn m = stop_if_set points (Superstep m.exchanges)
superstep_stop points (Step rank) m = None

-- the stop before the next step, where there is one: that of the lowest rank that runs, at its pc
abbrev pub address_stop : List Point → MachineState → Option Answer
address_stop points m =
    option_and_then (λ (n : NodeState). stop_if_set points (Address n.hart.rank n.hart.pc)) (lowest is_running m.nodes)

-- why there is a stop at the machine that an event led to, if there is: its outcome, or else a superstep, or else an address
abbrev pub stop_at : List Point → Event → MachineState → Option Answer
stop_at points e m =
    option_or (option_map finished m.outcome) (option_or (superstep_stop points e m) (address_stop points m))

-- why a walk stops after its event number k, counted from 0, if it does
abbrev pub stop_after : List Point → ℕ → MachineState → Option Answer
stop_after points k m =
    option_and_then (λ e. stop_at points e (event (walked k m) e)) (next_event (walked k m))

-- the first k events of a walk lead to no stop
abbrev pub Passes : List Point → ℕ → MachineState → Type 0
Passes points k m = (j : ℕ) → j < k → stop_after points j m ≡ None

-- the events of a walk up to and with the first one that leads to a stop, and that stop
pub record Goes (points : List Point) (m : MachineState) (events : List Event) (stop : Answer) : Type 0 where
  -- how many events come before that one
  pub before : ℕ
  pub passes : Passes points before m
  pub stops : stop_after points before m ≡ Some stop
  pub made : events ≡ walk (before + 1) m

-- some first events of a walk, none of which leads to a stop
pub record IsOnTheWay (points : List Point) (m : MachineState) (events : List Event) : Type 0 where
  pub count : ℕ
  pub passes : Passes points count m
  pub made : events ≡ walk count m
