-- What is contested in a run, superstep by superstep, and the text that tells of it.
use Rattle.std.specs.Prelude.{◌≡◌, ℕ, ◌++◌, ◌↔◌, List, [], All, None, IsSome, if◌then◌else◌}
use Rattle.bsp_exchange.specs.Landings.{Landing, landings}
use Rattle.contested_bytes.specs.declared.range.ContestedRange.{ContestedRange}
use Rattle.contested_bytes.specs.Contested.{IsContested}
use Rattle.contested_bytes.specs.Ranges.{IsIn, IsContestedRange, AreApart}
use Rattle.machine_core.specs.Machine.{MachineState}
use Rattle.machine_core.specs.Turn.{makes_exchange, superstep, with_phases}
use Rattle.contested_runs.specs.Lines.{header, range_lines}

-- ranges have just the contested bytes among landings, each once, as long as can be and in the order of rank and address; each names
-- two requests that bring its first byte
pub record AreContestedRanges (all : List Landing) (found : List ContestedRange) : Type 0 where
  pub contested : All (IsContestedRange all) found
  pub exact : (rank addr : ℕ) → IsIn found rank addr ↔ IsContested all rank addr
  pub apart : AreApart found

-- what lands at the turn of a machine none of whose nodes runs: nothing where it makes no exchange
abbrev pub landings_of : MachineState → List Landing
landings_of m = if makes_exchange m.nodes then landings m.nodes else []

-- the lines of the contested bytes of a turn
pub record AreTurnLines (m : MachineState) (lines : List ℕ) : Type 0 where
  pub found : List ContestedRange
  pub ranges : AreContestedRanges (landings_of m) found
  pub are : lines ≡ range_lines m.exchanges found

-- the lines of what is left of a run: those of the turn that ends the next superstep, and then those of the rest. After the outcome
-- nothing is left
pub data AreLines : MachineState → List ℕ → Type 0 where
  over : (m : MachineState) (text : List ℕ) → IsSome m.outcome → text ≡ [] → AreLines m text
  more : (m : MachineState) (lines rest text : List ℕ) → m.outcome ≡ None
      → AreTurnLines (with_phases m) lines → AreLines (superstep m) rest
      → text ≡ lines ++ rest → AreLines m text

-- a text tells of the contested bytes of a run that begins at a machine
abbrev pub TellsContested : MachineState → List ℕ → Type 0
TellsContested start text = (lines : List ℕ) × AreLines start lines × (text ≡ header ++ lines)

-- lines are those of a run from one machine up to another: the lines of what is left there, put behind them, make those of what is left
-- here
abbrev pub AreLinesUpTo : MachineState → MachineState → List ℕ → Type 0
AreLinesUpTo start now made = (rest : List ℕ) → AreLines now rest → AreLines start (made ++ rest)
