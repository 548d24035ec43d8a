-- Only `Costs` is answered with costs, and those are the ledger's.
use Rattle.std.proofs.Common.{◌≡◌, ℕ, Bool, true, false, List, [], Option, Some, None, sym, option_map, cond}
use Rattle.std.specs.Prelude.{slice_get}
use Rattle.std.specs.Option.{option_or, option_and_then}
use Rattle.node_core.specs.Node.{NodeState, is_running}
use Rattle.cost_ledger.specs.declared.CostRow.{CostRow}
use Rattle.machine_core.specs.declared.event.Event.{Event}
use Rattle.machine_core.specs.declared.event.Event.TheVariants as event
use Rattle.machine_core.specs.declared.outcome.Outcome.{Outcome}
use Rattle.machine_core.specs.Machine.{MachineState}
use Rattle.machine_core.specs.Turn.{lowest}
use Rattle.machine_core.specs.Events.{is_enabled, after, event as event_of}
use Rattle.machine_core.specs.Walk.{next_event, walked}
use Rattle.bsp_debug.specs.declared.command.Command.{Command}
use Rattle.bsp_debug.specs.declared.command.Command.TheVariants.{Step, Run, Return, Phase, Turn, Go, Regs, Fregs, Bytes, Queue, Costs}
use Rattle.bsp_debug.specs.declared.point.Point.{Point}
use Rattle.bsp_debug.specs.declared.point.Point.TheVariants.{Address, Superstep}
use Rattle.bsp_debug.specs.Points.{is_set}
use Rattle.bsp_debug.specs.Reply.{Answer, stopped, finished, turned, costs}
use Rattle.bsp_debug.specs.Stops.{stop_if_set, superstep_stop, stop_at, stop_after}
use Rattle.bsp_debug.specs.Debugger.{Makes, turn_answer, unit_at}

-- an answer that is not costs
abbrev IsNoCosts : Option Answer → Type 0
IsNoCosts a = (rows : List CostRow) → a ≡ Some (costs rows) → ⊥

or-no_costs : (a b : Option Answer) → IsNoCosts a → IsNoCosts b → IsNoCosts (option_or a b)
or-no_costs None b left right = right
or-no_costs (Some x) b left right = left

then-no_costs : {X : Type 0} (f : X → Option Answer) (x : Option X) → ((v : X) → IsNoCosts (f v)) → IsNoCosts (option_and_then f x)
then-no_costs f None each = λ rows e. cc
then-no_costs f (Some v) each = each v

set-no_costs : (points : List Point) (p : Point) → IsNoCosts (stop_if_set points p)
set-no_costs points p rows = cases (is_set points p) where
  cases : (set : Bool) → cond set (Some (stopped p)) None ≡ Some (costs rows) → ⊥
  cases true e = cc
  cases false e = cc

finished-no_costs : (outcome : Option Outcome) → IsNoCosts (option_map finished outcome)
finished-no_costs None rows e = cc
finished-no_costs (Some outcome) rows e = cc

superstep-no_costs : (points : List Point) (e : Event) (m : MachineState) → IsNoCosts (superstep_stop points e m)
superstep-no_costs points event.Turn m = set-no_costs points (Superstep m.exchanges)
superstep-no_costs points (event.Step rank) m = λ rows e. cc

stop-no_costs : (points : List Point) (k : ℕ) (m : MachineState) → IsNoCosts (stop_after points k m)
stop-no_costs points k m =
    then-no_costs (λ e. stop_at points e (event_of (walked k m) e)) (next_event (walked k m))
    (λ e. or-no_costs _ _ (finished-no_costs (event_of (walked k m) e).outcome)
    (or-no_costs _ _ (superstep-no_costs points e (event_of (walked k m) e))
    (then-no_costs (λ (n : NodeState). stop_if_set points (Address n.hart.rank n.hart.pc))
    (lowest is_running (event_of (walked k m) e).nodes)
    (λ n. set-no_costs points (Address n.hart.rank n.hart.pc)))))

turn-no_costs : (outcome : Option Outcome) (rows : List CostRow) → turn_answer outcome ≡ costs rows → ⊥
turn-no_costs None rows e = cc
turn-no_costs (Some outcome) rows e = cc

turned-no_costs : (made : Bool) (outcome : Option Outcome) (rows : List CostRow)
    → cond made (turn_answer outcome) (turned false) ≡ costs rows → ⊥
turned-no_costs true outcome rows e = turn-no_costs outcome rows e
turned-no_costs false outcome rows e = cc

mapped-no_costs : {X : Type 0} (f : X → Answer) (x : Option X) → ((v : X) (rows : List CostRow) → f v ≡ costs rows → ⊥)
    → (rows : List CostRow) → Some (costs rows) ≡ option_map f x → ⊥
mapped-no_costs f None each rows e = cc
mapped-no_costs f (Some v) each rows e = each v rows cc

-- what is answered with costs
pub costs_are : (points : List Point) (m : MachineState) (c : Command) (events : List Event) (rows : List CostRow)
    → Makes points m c events (costs rows) → (events ≡ []) × (rows ≡ m.ledger)
costs_are points m (Step rank n) events rows makes = absurd cc
costs_are points m (Run rank n) events rows makes = absurd cc
costs_are points m (Return rank addr sp) events rows makes = absurd cc
costs_are points m Phase events rows makes = absurd cc
costs_are points m Turn events rows makes = absurd (turned-no_costs (is_enabled m event.Turn) (after m events).outcome rows (sym makes.1))
costs_are points m Go events rows makes = absurd (stop-no_costs points makes.before m rows makes.stops)
costs_are points m (Regs rank) events rows makes = absurd (mapped-no_costs _ (slice_get m.nodes rank) (λ v rows e. cc) rows makes.1)
costs_are points m (Fregs rank) events rows makes = absurd (mapped-no_costs _ (unit_at m rank) (λ v rows e. cc) rows makes.1)
costs_are points m (Bytes rank addr len) events rows makes =
    absurd (mapped-no_costs _ (slice_get m.nodes rank) (λ v rows e. cc) rows makes.1)
costs_are points m (Queue rank) events rows makes = absurd (mapped-no_costs _ (slice_get m.nodes rank) (λ v rows e. cc) rows makes.1)
costs_are points m Costs events rows makes = (makes.0, cc)
