-- A session that also writes the counts of its run to a writer of its own, after the report (own rule).
use Rattle.std.specs.Prelude.{◌≡◌, List, ℕ}
use Rattle.machine_core.specs.declared.outcome.Outcome.{Outcome}
use Rattle.machine_core.specs.Machine.{MachineState}
use Rattle.step_counts.specs.Counts.{counts_of}
use Rattle.bsp_session.specs.declared.errors.SessionError.{SessionError}
use Rattle.bsp_session.specs.Session.{Session}
use Rattle.bsp_session.specs.Streams.{Stream}
use Rattle.bsp_session.specs.Told.{ReportsAndTells, IsErrorOfTold}

-- a text is the counts of a run
abbrev pub AreCounts : MachineState → List ℕ → Type 0
AreCounts start text = text ≡ counts_of start

-- an answer, and what is known where such a session ended by an error
abbrev pub Counts : Session → Stream → Outcome → Type 0
Counts s counts o = ReportsAndTells AreCounts s counts o

abbrev pub IsErrorOfCounted : Session → Stream → SessionError → Type 0
IsErrorOfCounted s counts e = IsErrorOfTold AreCounts s counts e
