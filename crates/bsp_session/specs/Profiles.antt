-- A session that also writes the profile of its run to a writer of its own, after the report (own rule).
use Rattle.std.specs.Prelude.{◌≡◌, ◌<◌, List, ℕ, true}
use Rattle.bsp_profile.specs.Lines.{profile_of}
use Rattle.machine_core.specs.declared.outcome.Outcome.{Outcome}
use Rattle.machine_core.specs.Machine.{MachineState}
use Rattle.bsp_session.specs.declared.errors.SessionError.{SessionError}
use Rattle.bsp_session.specs.declared.errors.SessionError.TheVariants.{TooManyNodes}
use Rattle.bsp_session.specs.declared.job.Job.{Job}
use Rattle.bsp_session.specs.Session.{Session}
use Rattle.bsp_session.specs.Streams.{IsUntouched, Stream}
use Rattle.bsp_session.specs.Told.{ReportsAndTells, IsErrorOfTold}

-- own limit: the nodes of a run with a profile, whose table has a row and a column for each
abbrev pub most_profiled : ℕ
most_profiled = 1024

-- the machine is large, and has more nodes
abbrev pub HasTooManyNodes : Job → Type 0
HasTooManyNodes job = (job.settings.large ≡ true) × (most_profiled < job.settings.nodes)

-- a text is the profile of a run
abbrev pub IsProfile : MachineState → List ℕ → Type 0
IsProfile start text = text ≡ profile_of start

-- an answer, and what is known where such a session ended by an error
abbrev pub Profiles : Session → Stream → Outcome → Type 0
Profiles s profile o = ReportsAndTells IsProfile s profile o

-- nothing was read or written, since there are too many nodes
pub record RefusesNodes (s : Session) (profile : Stream) : Type 0 where
  pub nodes : HasTooManyNodes s.job
  pub image : IsUntouched s.image
  pub input : IsUntouched s.input
  pub out : IsUntouched s.out
  pub unwritten : IsUntouched profile

abbrev pub IsErrorOfProfiled : Session → Stream → SessionError → Type 0
IsErrorOfProfiled s profile TooManyNodes = RefusesNodes s profile
IsErrorOfProfiled s profile e = IsErrorOfTold IsProfile s profile e
