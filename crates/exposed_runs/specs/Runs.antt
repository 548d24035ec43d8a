-- What is exposed in a run, superstep by superstep, and the text that tells of it.
use Rattle.std.specs.Prelude.{◌≡◌, ℕ, ◌++◌, List, [], None, IsSome, if◌then◌else◌}
use Rattle.std.specs.Fn.{iterate}
use Rattle.exposed_bytes.specs.declared.call.Call.{Call}
use Rattle.exposed_bytes.specs.declared.exposure.Exposure.{Exposure}
use Rattle.exposed_bytes.specs.Exposed.{IsExposed}
use Rattle.exposed_bytes.specs.Found.{AreExposures}
use Rattle.machine_core.specs.Machine.{MachineState}
use Rattle.machine_core.specs.Turn.{makes_exchange, superstep, with_phases}
use Rattle.exposed_runs.specs.declared.note.Note.{Note}
use Rattle.exposed_runs.specs.Calls.{calls}
use Rattle.exposed_runs.specs.Lines.{header, exposure_lines}
use Rattle.exposed_runs.specs.Notes.{all_notes}

-- the calls that take effect at the turn of a machine none of whose nodes runs, by what was noted of its superstep: none where it makes no
-- exchange
abbrev pub calls_at_turn : MachineState → List Note → List Call
calls_at_turn m notes = if makes_exchange m.nodes then calls m.nodes notes else []

-- the lines of the exposed bytes of such a turn
pub record AreTurnLines (m : MachineState) (notes : List Note) (lines : List ℕ) : Type 0 where
  pub found : List Exposure
  pub ranges : AreExposures (calls_at_turn m notes) found
  pub are : lines ≡ exposure_lines m.exchanges found

-- those of the next superstep of a machine: its nodes make their local parts, and then comes the turn
abbrev pub AreSuperstepLines : MachineState → List ℕ → Type 0
AreSuperstepLines m lines = AreTurnLines (with_phases m) (all_notes m) lines

-- the lines of what is left of a run: those of the next superstep, and then those of the rest. After the outcome nothing is left
pub data AreLines : MachineState → List ℕ → Type 0 where
  over : (m : MachineState) (text : List ℕ) → IsSome m.outcome → text ≡ [] → AreLines m text
  more : (m : MachineState) (lines rest text : List ℕ) → m.outcome ≡ None
      → AreSuperstepLines m lines → AreLines (superstep m) rest
      → text ≡ lines ++ rest → AreLines m text

-- a text tells of the exposed bytes of a run that begins at a machine
abbrev pub TellsExposed : MachineState → List ℕ → Type 0
TellsExposed start text = (lines : List ℕ) × AreLines start lines × (text ≡ header ++ lines)

-- lines are those of a run from one machine up to another: the lines of what is left there, put behind them, make those of what is left
-- here
abbrev pub AreLinesUpTo : MachineState → MachineState → List ℕ → Type 0
AreLinesUpTo start now made = (rest : List ℕ) → AreLines now rest → AreLines start (made ++ rest)

-- a byte is exposed in the k-th superstep from a machine on, which has not ended before
pub record IsExposedIn (k : ℕ) (start : MachineState) (rank addr : ℕ) : Type 0 where
  pub going : (iterate superstep k start).outcome ≡ None
  pub exposed : IsExposed (calls_at_turn (with_phases (iterate superstep k start)) (all_notes (iterate superstep k start))) rank addr
