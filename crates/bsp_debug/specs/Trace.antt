-- A machine whose events are taken down, and runs of one node up to a point.
use Rattle.std.specs.Prelude.{◌≡◌, ◌≢◌, ℕ, ◌<◌, ◌≤◌, ◌==◌, ◌&&◌, true, List}
use Rattle.std.specs.Prelude.{[], ◌∷◌, ◌++◌, replicate, slice_get, if◌then◌else◌, Option, Some, None}
use Rattle.std.specs.Option.{option_and_then}
use Rattle.node_core.specs.Node.{NodeState}
use Rattle.machine_core.specs.declared.event.Event.TheVariants.{Step, Turn}
use Rattle.machine_core.specs.Machine.{MachineState}
use Rattle.machine_core.specs.Events.{runs, is_enabled, event, after}
use Rattle.bsp_debug.specs.declared.made.Made.{Made}
use Rattle.bsp_debug.specs.declared.made.Made.TheVariants.{Steps}
use Rattle.bsp_debug.specs.declared.made.Made.TheVariants as entry
use Rattle.bsp_debug.specs.declared.point.Point.{Point}
use Rattle.bsp_debug.specs.declared.point.Point.TheVariants.{Address}
use Rattle.bsp_debug.specs.Made.{events_of, AreFew}
use Rattle.bsp_debug.specs.Points.{is_set}

pub record Traced : Type 0 where
  -- the machine as it was before the events
  pub start : MachineState
  pub machine : MachineState
  pub made : List Made

-- the events lead from the machine as it was to what it is, and their entries are few
pub record IsTrace (t : Traced) : Type 0 where
  pub machine : t.machine ≡ after t.start (events_of t.made)
  pub few : AreFew t.made

-- entries with one more for some steps of a rank, if there are any
abbrev pub with_steps : List Made → (rank count : ℕ) → List Made
with_steps entries rank count = if count == 0 then entries else entries ++ Steps rank count ∷ []

-- a machine after so many steps of the node of a rank
abbrev pub after_steps : MachineState → (rank count : ℕ) → MachineState
after_steps m rank count = after m (replicate count (Step rank))

-- and what is taken down of them
abbrev pub stepped : (rank count : ℕ) → Traced → Traced
stepped rank count t = record t { machine = after_steps t.machine rank count; made = with_steps t.made rank count }

-- a trace after the turn
abbrev pub turned : Traced → Traced
turned t = record t { machine = event t.machine Turn; made = t.made ++ entry.Turn ∷ [] }

-- an entry is not one of steps of this rank or of one above it
abbrev pub IsBelow : ℕ → Made → Type 0
IsBelow rank (Steps other count) = other < rank
IsBelow rank entry.Turn = Unit {0}

-- likewise the last of some entries, if there is one
abbrev pub EndsBelow : ℕ → List Made → Type 0
EndsBelow rank [] = Unit {0}
EndsBelow rank (last ∷ []) = IsBelow rank last
EndsBelow rank (first ∷ second ∷ others) = EndsBelow rank (second ∷ others)

-- the point at which the node of a rank stands, if it runs and its next step has one
abbrev pub point_at : List Point → MachineState → ℕ → Option Point
point_at points m rank =
    option_and_then (λ (n : NodeState). if runs n && is_set points (Address rank n.hart.pc) then Some (Address rank n.hart.pc) else None)
    (slice_get m.nodes rank)

-- the node of a rank runs before each of so many steps, and stands at no point on the way, but perhaps where it began
pub record RunsOn (points : List Point) (m : MachineState) (rank count : ℕ) : Type 0 where
  pub runs : (j : ℕ) → j < count → is_enabled (after_steps m rank j) (Step rank) ≡ true
  pub passes : (j : ℕ) → 0 < j → j < count → point_at points (after_steps m rank j) rank ≡ None

-- after so many of at most `most` steps it has stopped or stands at a point, or these were all of them; and they are one at least if it ran
-- and might make one
pub record RunsToPoint (points : List Point) (m : MachineState) (rank most count : ℕ) : Type 0 where
  pub on : RunsOn points m rank count
  pub few : count ≤ most
  pub some : is_enabled m (Step rank) ≡ true → 0 < most → 0 < count
  pub arrived : is_enabled (after_steps m rank count) (Step rank) ≡ true → count < most
      → point_at points (after_steps m rank count) rank ≢ None

-- it runs after so many of them, and stands at no point, but perhaps where it began
pub record RunsOnTo (points : List Point) (m : MachineState) (rank most count : ℕ) : Type 0 where
  pub on : RunsOn points m rank count
  pub few : count ≤ most
  pub runs : is_enabled (after_steps m rank count) (Step rank) ≡ true
  pub passes : 0 < count → point_at points (after_steps m rank count) rank ≡ None
