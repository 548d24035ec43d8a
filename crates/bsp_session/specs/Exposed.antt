-- A session that also writes what is exposed in its run to a writer of its own, after the report (own rule).
use Rattle.exposed_runs.specs.Runs.{TellsExposed}
use Rattle.machine_core.specs.declared.outcome.Outcome.{Outcome}
use Rattle.bsp_session.specs.declared.errors.SessionError.{SessionError}
use Rattle.bsp_session.specs.Session.{Session}
use Rattle.bsp_session.specs.Streams.{Stream}
use Rattle.bsp_session.specs.Told.{ReportsAndTells, IsErrorOfTold}

-- an answer, and what is known where such a session ended by an error
abbrev pub Exposes : Session → Stream → Outcome → Type 0
Exposes s exposed o = ReportsAndTells TellsExposed s exposed o

abbrev pub IsErrorOfExposed : Session → Stream → SessionError → Type 0
IsErrorOfExposed s exposed e = IsErrorOfTold TellsExposed s exposed e
