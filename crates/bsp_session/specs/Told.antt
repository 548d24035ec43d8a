-- Sessions that also write a text to a writer of its own, after the report (own rule): the profile of the run, its counts, or what is
-- contested in it. `Tells` says which texts tell of a run from its start.
use Rattle.std.specs.Prelude.{◌≡◌, ◌⊎◌, List, ℕ, Some}
use Rattle.std.specs.Io.KnownBytes.{Appends}
use Rattle.counted_io.specs.Transfers.{AppendsPrefix}
use Rattle.machine_core.specs.declared.outcome.Outcome.{Outcome}
use Rattle.machine_core.specs.Machine.{MachineState}
use Rattle.machine_core.specs.Turn.{end_of}
use Rattle.bsp_session.specs.declared.errors.SessionError.{SessionError}
use Rattle.bsp_session.specs.declared.errors.SessionError.TheVariants.{WriteFault, NoMemory}
use Rattle.bsp_session.specs.declared.job.Job.{Job}
use Rattle.bsp_session.specs.Report.{report_of}
use Rattle.bsp_session.specs.Session.{IsErrorOf, IsReportPart, ReportsFrom, ReportsPart, Session}
use Rattle.bsp_session.specs.Streams.{Stream, IsUntouched, HasFailed}

-- an answer: how the run ended, after the whole of its report, and then the whole of such a text, were written
pub record ReportsAndTells (Tells : MachineState → List ℕ → Type 0) (s : Session) (told : Stream) (o : Outcome) : Type 0 where
  pub start : MachineState
  pub reports : ReportsFrom s start
  pub outcome : (end_of start).outcome ≡ Some o
  pub text : List ℕ
  pub tells : Tells start text
  pub written : Appends told.before told.after text

-- some first bytes of a text were written, and not all, and then its writer failed
pub record IsTextPart (text : List ℕ) (told : Stream) : Type 0 where
  pub written : AppendsPrefix told.before told.after text
  pub failed : HasFailed told

-- the report was written whole, and then such a text in part
pub record TellsPart (Tells : MachineState → List ℕ → Type 0) (s : Session) (told : Stream) : Type 0 where
  pub start : MachineState
  pub reports : ReportsFrom s start
  pub text : List ℕ
  pub tells : Tells start text
  pub part : IsTextPart text told

-- what is known where such a session ended by an error: that it is one of the session without such a text, whose writer was not touched;
-- or the text's writer failed
abbrev pub IsErrorOfTold : (Tells : MachineState → List ℕ → Type 0) → Session → Stream → SessionError → Type 0
IsErrorOfTold Tells s told WriteFault = (ReportsPart s × IsUntouched told) ⊎ TellsPart Tells s told
IsErrorOfTold Tells s told e = IsErrorOf s e × IsUntouched told

-- ---- for private contracts, which speak of the last stage

-- the report of a machine at its end was written whole, and then a text
pub record WritesBoth (job : Job) (end : MachineState) (text : List ℕ) (out told : Stream) (o : Outcome) : Type 0 where
  pub outcome : end.outcome ≡ Some o
  pub report : Appends out.before out.after (report_of job end)
  pub beside : Appends told.before told.after text

-- the report was written whole, and then the text in part
pub record WritesTextPart (job : Job) (end : MachineState) (text : List ℕ) (out told : Stream) : Type 0 where
  pub report : Appends out.before out.after (report_of job end)
  pub part : IsTextPart text told

-- why they were not both written
abbrev pub IsErrorOfBoth : Job → MachineState → List ℕ → (out told : Stream) → SessionError → Type 0
IsErrorOfBoth job end text out told WriteFault = (IsReportPart job end out × IsUntouched told) ⊎ WritesTextPart job end text out told
IsErrorOfBoth job end text out told NoMemory = IsUntouched out × IsUntouched told
IsErrorOfBoth job end text out told _ = ⊥
