-- A debugger: a machine, the states that were kept of it, the points that are set, and what the last command made. What each command
-- makes of the machine's events, and what it answers (own rules).
use Rattle.std.specs.Prelude.{◌≡◌, ℕ, ◌-◌, ◌≤◌, Bool, true, false, List, [], ◌∷◌, length, map, replicate, slice_get, slice_index, nat_lt}
use Rattle.std.specs.Prelude.{if◌then◌else◌, Option, Some, None, is_some, is_none, option_map}
use Rattle.std.specs.List.{range_with_len}
use Rattle.std.specs.Option.{option_or, option_and_then, option_map_or}
use Rattle.rv_float_tables.specs.declared.instr.FloatCsr.TheVariants.{Fcsr}
use Rattle.float_unit.specs.State.{FloatState, csr_value}
use Rattle.node_memory.specs.Bytes.{fits, bytes_at}
use Rattle.node_core.specs.Node.{NodeState, local_steps}
use Rattle.machine_core.specs.declared.event.Event.{Event}
use Rattle.machine_core.specs.declared.event.Event.TheVariants as event
use Rattle.machine_core.specs.declared.outcome.Outcome.{Outcome}
use Rattle.machine_core.specs.Machine.{MachineState}
use Rattle.machine_core.specs.Turn.{with_phases}
use Rattle.machine_core.specs.Events.{is_enabled, after, MakeNoTurn}
use Rattle.machine_core.specs.Walk.{walk}
use Rattle.bsp_debug.specs.declared.command.Command.{Command}
use Rattle.bsp_debug.specs.declared.command.Command.TheVariants.{Step, Run, Return, Phase, Turn, Go, Regs, Fregs, Bytes, Queue, Costs}
use Rattle.bsp_debug.specs.declared.error.DebugError.{DebugError}
use Rattle.bsp_debug.specs.declared.error.DebugError.TheVariants.{BadRank, BadRange, NoFloatUnit, TooMany, NoSuchBreak, Over}
use Rattle.bsp_debug.specs.declared.made.Made.{Made}
use Rattle.bsp_debug.specs.declared.point.Point.{Point}
use Rattle.bsp_debug.specs.declared.point.Point.TheVariants.{Address, Superstep}
use Rattle.bsp_debug.specs.Points.{is_set, most_points}
use Rattle.bsp_debug.specs.Reply.{Answer, moved, turned, finished, registers, floats, bytes, queue, costs}
use Rattle.bsp_debug.specs.Returns.{HasReturned, IsReturning}
use Rattle.bsp_debug.specs.Stops.{Goes, IsOnTheWay}
use Rattle.bsp_debug.specs.Trace.{RunsToPoint, RunsOnTo}

pub record DebuggerState : Type 0 where
  -- the machine as it was when the debugger was made of it
  pub first : MachineState
  pub machine : MachineState
  -- the states that were kept, each at the place of its number, and none where it was forgotten
  pub kept : List (Option MachineState)
  -- each once: setting one lengthens the list by one where it was not set, and taking one away shortens it by one
  pub points : List Point
  -- the events that the last command made
  pub last : List Made

abbrev pub has_rank : MachineState → ℕ → Bool
has_rank m rank = is_some (slice_get m.nodes rank)

-- the unit of floating point of the node of a rank, if there is such a node, and it has one
abbrev pub unit_at : MachineState → (rank : ℕ) → Option FloatState
unit_at m rank = option_and_then (λ (n : NodeState). n.hart.unit) (slice_get m.nodes rank)

-- a test that gives no refusal, or the refusal
abbrev pub refused_unless : Bool → DebugError → Option DebugError
refused_unless test e = if test then None else Some e

-- why a point cannot be set: it names no node, or it would be one too many. One that is set can be set again
abbrev pub add_fault : List Point → MachineState → Point → Option DebugError
add_fault points m p =
    option_or (rank_fault p)
    (if is_set points p then None else refused_unless (nat_lt (length points) most_points) TooMany)
  where
    rank_fault : Point → Option DebugError
    rank_fault (Address rank addr) = refused_unless (has_rank m rank) BadRank
    rank_fault (Superstep k) = None

-- why a point cannot be taken away
abbrev pub remove_fault : List Point → Point → Option DebugError
remove_fault points p = refused_unless (is_set points p) NoSuchBreak

-- why bytes cannot be read: they do not lie in the memory of the node of the rank
abbrev range_fault : MachineState → (rank addr len : ℕ) → Option DebugError
range_fault m rank addr len =
    refused_unless (option_map_or (λ (n : NodeState). fits (length n.hart.memory) addr len) (slice_get m.nodes rank) true) BadRange

-- why a command is refused: it names no node, or bytes that are not in its memory, or a unit of floating point that it does not have;
-- or it is to make events, and the machine has its outcome
abbrev pub command_fault : MachineState → Command → Option DebugError
command_fault m (Step rank n) = option_or (refused_unless (has_rank m rank) BadRank) (refused_unless (is_none m.outcome) Over)
command_fault m (Run rank n) = option_or (refused_unless (has_rank m rank) BadRank) (refused_unless (is_none m.outcome) Over)
command_fault m (Return rank addr sp) = option_or (refused_unless (has_rank m rank) BadRank) (refused_unless (is_none m.outcome) Over)
command_fault m Phase = refused_unless (is_none m.outcome) Over
command_fault m Turn = refused_unless (is_none m.outcome) Over
command_fault m Go = refused_unless (is_none m.outcome) Over
command_fault m (Regs rank) = refused_unless (has_rank m rank) BadRank
command_fault m (Fregs rank) = option_or (refused_unless (has_rank m rank) BadRank) (refused_unless (is_some (unit_at m rank)) NoFloatUnit)
command_fault m (Bytes rank addr len) = option_or (refused_unless (has_rank m rank) BadRank) (range_fault m rank addr len)
command_fault m (Queue rank) = refused_unless (has_rank m rank) BadRank
command_fault m Costs = None

-- how many of n steps a node makes before it stops
abbrev pub steps_made : List ℕ → ℕ → NodeState → ℕ
steps_made input n s = (local_steps input n s).ticks - s.ticks

-- how many of n steps the node of a rank makes before it stops
abbrev pub steps_at : MachineState → (rank n : ℕ) → ℕ
steps_at m rank n = option_map_or (steps_made m.input n) (slice_get m.nodes rank) 0

-- some first events of a machine's walk, none of them a turn
pub record IsWithinPhases (m : MachineState) (events : List Event) : Type 0 where
  pub count : ℕ
  pub made : events ≡ walk count m
  pub no_turn : MakeNoTurn m events

-- all of those: they take each node through its local part of the superstep
pub record MakesPhases (m : MachineState) (events : List Event) : Type 0 where
  pub first : IsWithinPhases m events
  pub whole : after m events ≡ with_phases m

-- the turn, where it is enabled
abbrev pub turn_events : MachineState → List Event
turn_events m = if is_enabled m event.Turn then event.Turn ∷ [] else []

-- what is answered where the turn led to an outcome, or to none
abbrev pub turn_answer : Option Outcome → Answer
turn_answer (Some outcome) = finished outcome
turn_answer None = turned true

abbrev pub registers_of : NodeState → Answer
registers_of s = registers s.hart.rank s.hart.pc s.ticks s.state s.hart.registers

-- what f0 to f31 hold
abbrev pub float_registers : FloatState → List ℕ
float_registers u = map (λ r. slice_index u.registers r) (range_with_len 0 32)

abbrev pub floats_of : (rank : ℕ) → FloatState → Answer
floats_of rank u = floats rank (csr_value Fcsr u) (float_registers u)

-- what a command makes of a machine's events, and what it answers
abbrev pub Makes : List Point → MachineState → Command → List Event → Answer → Type 0
Makes points m (Step rank n) events reply = (events ≡ replicate (steps_at m rank n) (event.Step rank)) × (reply ≡ moved (length events))
Makes points m (Run rank n) events reply =
    ((count : ℕ) × (events ≡ replicate count (event.Step rank)) × RunsToPoint points m rank n count) × (reply ≡ moved (length events))
Makes points m (Return rank addr sp) events reply =
    ((count : ℕ) × (events ≡ replicate count (event.Step rank)) × HasReturned points m rank addr sp count) × (reply ≡ moved (length events))
Makes points m Phase events reply = MakesPhases m events × (reply ≡ moved (length events))
Makes points m Turn events reply = (events ≡ turn_events m)
    × (reply ≡ (if is_enabled m event.Turn then turn_answer (after m events).outcome else turned false))
Makes points m Go events reply = Goes points m events reply
Makes points m (Regs rank) events reply = (events ≡ []) × (Some reply ≡ option_map registers_of (slice_get m.nodes rank))
Makes points m (Fregs rank) events reply = (events ≡ []) × (Some reply ≡ option_map (floats_of rank) (unit_at m rank))
Makes points m (Bytes rank addr len) events reply = (events ≡ [])
    × (Some reply ≡ option_map (λ (n : NodeState). bytes (bytes_at n.hart.memory addr len)) (slice_get m.nodes rank))
Makes points m (Queue rank) events reply = (events ≡ [])
    × (Some reply ≡ option_map (λ (n : NodeState). queue n.hart.communication.queue) (slice_get m.nodes rank))
Makes points m Costs events reply = (events ≡ []) × (reply ≡ costs m.ledger)

-- what a command made where it was refused memory: some first of its events, and for `Return`, `Turn` and `Go` not all of them (a turn that
-- is not enabled has no events of which one could be missing). `Regs` and `Fregs` ask for no memory
abbrev pub MakesPart : List Point → MachineState → Command → List Event → Type 0
MakesPart points m (Step rank n) events = (k : ℕ) × (k ≤ steps_at m rank n) × (events ≡ replicate k (event.Step rank))
MakesPart points m (Run rank n) events = (count : ℕ) × (events ≡ replicate count (event.Step rank)) × RunsOnTo points m rank n count
MakesPart points m (Return rank addr sp) events =
    (count : ℕ) × (events ≡ replicate count (event.Step rank)) × IsReturning points m rank addr sp count
MakesPart points m Phase events = IsWithinPhases m events
MakesPart points m Turn events = (events ≡ []) × (is_enabled m event.Turn ≡ true)
MakesPart points m Go events = IsOnTheWay points m events
MakesPart points m (Regs rank) events = ⊥
MakesPart points m (Fregs rank) events = ⊥
MakesPart points m (Bytes rank addr len) events = events ≡ []
MakesPart points m (Queue rank) events = events ≡ []
MakesPart points m Costs events = events ≡ []

-- the command that is left where it was refused memory after some events: of `Step` and `Run` as many steps less, of any other the whole
abbrev pub rest_of : Command → List Event → Command
rest_of (Step rank n) made = Step rank (n - length made)
rest_of (Run rank n) made = Run rank (n - length made)
rest_of (Return rank addr sp) made = Return rank addr sp
rest_of Phase made = Phase
rest_of Turn made = Turn
rest_of Go made = Go
rest_of (Regs rank) made = Regs rank
rest_of (Fregs rank) made = Fregs rank
rest_of (Bytes rank addr len) made = Bytes rank addr len
rest_of (Queue rank) made = Queue rank
rest_of Costs made = Costs
