-- A session that also writes what is contested in its run to a writer of its own, after the report (own rule).
use Rattle.contested_runs.specs.Runs.{TellsContested}
use Rattle.machine_core.specs.declared.outcome.Outcome.{Outcome}
use Rattle.bsp_session.specs.declared.errors.SessionError.{SessionError}
use Rattle.bsp_session.specs.Session.{Session}
use Rattle.bsp_session.specs.Streams.{Stream}
use Rattle.bsp_session.specs.Told.{ReportsAndTells, IsErrorOfTold}

-- an answer, and what is known where such a session ended by an error
abbrev pub Contests : Session → Stream → Outcome → Type 0
Contests s contested o = ReportsAndTells TellsContested s contested o

abbrev pub IsErrorOfContested : Session → Stream → SessionError → Type 0
IsErrorOfContested s contested e = IsErrorOfTold TellsContested s contested e
