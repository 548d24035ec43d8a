-- What happens in a machine, one event after another, in any order (own rule; BSP, Valiant 1990, leaves open how the nodes' local
-- work is interleaved).
use Rattle.std.specs.Prelude.{◌≡◌, ℕ, ◌<◌, ◌≤◌, ◌==◌, Bool, true, false, not, ◌&&◌, List, [], ◌∷◌, fold, replicate, slice_get, slice_set}
use Rattle.std.specs.Prelude.{is_none, IsSomeAnd, Result, OnOk, OnErr, IfOk, if◌then◌else◌}
use Rattle.std.specs.declared.alloc.AllocError.{AllocError}
use Rattle.std.specs.Fn.{iterate}
use Rattle.std.specs.List.{AllZip, list_any}
use Rattle.std.specs.Option.{option_map_or}
use Rattle.node_core.specs.Addresses.{next_addresses}
use Rattle.node_core.specs.Node.{NodeState, Extends, MayRefuseStep, is_running, local_step, local_steps}
use Rattle.machine_core.specs.declared.event.Event.{Event}
use Rattle.machine_core.specs.declared.event.Event.TheVariants.{Step, Turn}
use Rattle.machine_core.specs.Machine.{MachineState}
use Rattle.machine_core.specs.Turn.{turned}

abbrev pub runs : NodeState → Bool
runs n = is_running n.state

abbrev pub some_runs : List NodeState → Bool
some_runs nodes = list_any runs nodes

-- a step can be made where the node of its rank runs, and the turn where no node runs and there is no outcome
abbrev pub is_enabled : MachineState → Event → Bool
is_enabled m (Step rank) = option_map_or runs (slice_get m.nodes rank) false
is_enabled m Turn = is_none m.outcome && not (some_runs m.nodes)

-- each node has made some steps of its own, or none
abbrev pub HaveStepped : List ℕ → List NodeState → List NodeState → Type 0
HaveStepped input old new = AllZip (λ o n. (k : ℕ) × (n ≡ local_steps input k o)) old new

-- nodes after a step of the one of a rank
abbrev pub stepped : List ℕ → ℕ → List NodeState → List NodeState
stepped input rank nodes = option_map_or (λ n. slice_set nodes rank (local_step input n)) (slice_get nodes rank) nodes

-- nodes after so many steps of the one of a rank
abbrev pub stepped_often : List ℕ → ℕ → ℕ → List NodeState → List NodeState
stepped_often input rank k nodes = iterate (stepped input rank) k nodes

-- the addresses of the next steps of the node of a rank, k of them at most
abbrev pub next_addresses_at : List ℕ → ℕ → ℕ → List NodeState → List ℕ
next_addresses_at input rank k nodes = option_map_or (next_addresses input k) (slice_get nodes rank) []

-- a machine after an event that is enabled
abbrev pub made : MachineState → Event → MachineState
made m (Step rank) = record m { nodes = stepped m.input rank m.nodes }
made m Turn = turned m

-- a machine after an event; one that is not enabled changes nothing
unfoldable pub event : MachineState → Event → MachineState
event m e = if is_enabled m e then made m e else m

-- a machine after events, one after another
unfoldable pub after : MachineState → List Event → MachineState
after m events = fold event m events

abbrev pub is_step_of : ℕ → Event → Bool
is_step_of rank (Step other) = other == rank
is_step_of rank Turn = false

-- an event is a turn, and it is made
abbrev pub makes_turn : MachineState → Event → Bool
makes_turn m (Step rank) = false
makes_turn m Turn = is_enabled m Turn

-- none of these events, one after another, is a turn that is made
abbrev pub MakeNoTurn : MachineState → List Event → Type 0
MakeNoTurn m [] = Unit {0}
MakeNoTurn m (e ∷ events) = (makes_turn m e ≡ false) × MakeNoTurn (event m e) events

-- an event is enabled and may ask for memory: the turn, or a step that may
abbrev pub MayRefuseEvent : MachineState → Event → Type 0
MayRefuseEvent m (Step rank) = IsSomeAnd (slice_get m.nodes rank) (λ n. MayRefuseStep m.input n)
MayRefuseEvent m Turn = is_enabled m Turn ≡ true

-- an event was to be made, with whether it was enabled: it was made, where it is enabled, or it was refused memory. Else nothing has
-- changed
pub record IsAnswered (e : Event) (old new : MachineState) (answer : Result Bool AllocError) : Type 0 where
  pub ok : OnOk answer (new ≡ event old e)
  pub enabled : IfOk answer (λ made. made ≡ is_enabled old e)
  pub err : OnErr answer (new ≡ old)
  pub refuses : OnErr answer (MayRefuseEvent old e)

-- so many steps of the node of a rank were to be made at most, as long as it runs: they are; or memory is refused in one of them, which
-- could be made next, and those before it are made
pub record AreStepsMade {T : Type 0} (rank most : ℕ) (old new : MachineState) (answer : Result T AllocError) : Type 0 where
  pub ok : OnOk answer (new ≡ after old (replicate most (Step rank)))
  pub err : OnErr answer ((k : ℕ) × (k < most) × (new ≡ after old (replicate k (Step rank))))
  pub refuses : OnErr answer (MayRefuseEvent new (Step rank))

-- a machine some events later: settings and input are as they were, and nothing that was done is undone
pub record IsOnward (old new : MachineState) : Type 0 where
  pub settings : new.settings ≡ old.settings
  pub input : new.input ≡ old.input
  pub ticks : AllZip (λ o n. o.ticks ≤ n.ticks) old.nodes new.nodes
  pub output : Extends old.output new.output
  pub ledger : Extends old.ledger new.ledger
  pub exchanges : old.exchanges ≤ new.exchanges
