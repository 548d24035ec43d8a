-- The errors of a session, by the stage that ended it.
use Rattle.std.proofs.Common.{◌≡◌, ◌∙◌, ℕ, ap, inl, inr, length, List, Option, Some, None, Result, Ok, Err, IfOk, IfErr, arith, subst}
use Rattle.std.specs.Prelude.{IsErrOf, ◌≢◌, ◌↔◌}
use Rattle.std.specs.Io.KnownBytes.{Appends}
use Rattle.counted_io.specs.declared.ReadError.{ReadError}
use Rattle.counted_io.specs.declared.ReadError.TheVariants as read
use Rattle.machine_core.specs.Machine.{MachineState}
use Rattle.machine_core.specs.Turn.{end_of}
use Rattle.bsp_session.specs.declared.errors.BadSetting.{BadSetting}
use Rattle.bsp_session.specs.declared.errors.SessionError.{SessionError}
use Rattle.bsp_session.specs.declared.errors.SessionError.TheVariants.{BadSettings, TooLong, Text, BadImage, SegmentOutside, ReadFault}
use Rattle.bsp_session.specs.declared.errors.SessionError.TheVariants.{TooManyNodes, WriteFault, NoWorker, NoMemory}
use Rattle.bsp_session.specs.Outcome.{error_of_read}
use Rattle.bsp_session.specs.Report.{report_of}
use Rattle.bsp_session.specs.declared.job.Job.{Job}
use Rattle.bsp_session.specs.Session.{EndsAtFile, IsErrorOf, IsErrorOfFiles, IsErrorOfReport, IsErrorOfRun, IsErrorOfThreads, IsReportPart}
use Rattle.bsp_session.specs.Session.{ReadsBoth, ReportsFrom, Session, StartsAt, job_fault}
use Rattle.bsp_session.specs.Streams.{IsUntouched, Stream}
use Rattle.bsp_session.proofs.Jobs.{length-fresh}

-- what a job is refused for is a setting
pub IsErrorOfFiles-settings : (job : Job) (image input : Stream) (e : SessionError) → job_fault job ≡ Some e → IsUntouched image
    → IsUntouched input
    → IsErrorOfFiles job_fault job image input e
IsErrorOfFiles-settings job image input (BadSettings cause) fault first second = (fault, first, second)
IsErrorOfFiles-settings job image input TooLong fault first second = absurd (grind arith)
IsErrorOfFiles-settings job image input (Text cause) fault first second = absurd (grind arith)
IsErrorOfFiles-settings job image input (BadImage cause) fault first second = absurd (grind arith)
IsErrorOfFiles-settings job image input SegmentOutside fault first second = absurd (grind arith)
IsErrorOfFiles-settings job image input TooManyNodes fault first second = absurd (grind arith)
IsErrorOfFiles-settings job image input ReadFault fault first second = absurd (grind arith)
IsErrorOfFiles-settings job image input WriteFault fault first second = absurd (grind arith)
IsErrorOfFiles-settings job image input NoWorker fault first second = absurd (grind arith)
IsErrorOfFiles-settings job image input NoMemory fault first second = absurd (grind arith)

-- what ended the reading of the two is an error of it
pub IsErrorOfFiles-reading : (fault : Job → Option SessionError) (job : Job) (image input : Stream) (why : ReadError)
    → EndsAtFile fault job image input why → IsErrorOfFiles fault job image input (error_of_read why)
IsErrorOfFiles-reading fault job image input read.TooLong ended = ended
IsErrorOfFiles-reading fault job image input read.ReadFault ended = ended
IsErrorOfFiles-reading fault job image input read.NoMemory ended = ended

-- with a writer that was not touched it is the session's
pub IsErrorOf-files : (s : Session) (e : SessionError) → IsErrorOfFiles job_fault s.job s.image s.input e → IsUntouched s.out
    → IsErrorOf s e
IsErrorOf-files s (BadSettings cause) why untouched = record { cause = why; unwritten = untouched }
IsErrorOf-files s TooLong why untouched = record { cause = why; unwritten = untouched }
IsErrorOf-files s (Text cause) why untouched = absurd why
IsErrorOf-files s (BadImage cause) why untouched = absurd why
IsErrorOf-files s SegmentOutside why untouched = absurd why
IsErrorOf-files s TooManyNodes why untouched = absurd why
IsErrorOf-files s ReadFault why untouched = record { cause = why; unwritten = untouched }
IsErrorOf-files s WriteFault why untouched = absurd why
IsErrorOf-files s NoWorker why untouched = absurd why
IsErrorOf-files s NoMemory why untouched = inl (record { cause = why; unwritten = untouched })

pub IsErrorOf-run : (s : Session) (i n : List ℕ) (e : SessionError) → ReadsBoth s i n → IsErrorOfRun s.job i e → IsUntouched s.out
    → IsErrorOf s e
IsErrorOf-run s i n (BadSettings cause) both why untouched = absurd why
IsErrorOf-run s i n TooLong both why untouched = absurd why
IsErrorOf-run s i n (Text cause) both why untouched = record { i = i; n = n; read = both; cause = why; unwritten = untouched }
IsErrorOf-run s i n (BadImage cause) both why untouched = record { i = i; n = n; read = both; cause = why; unwritten = untouched }
IsErrorOf-run s i n SegmentOutside both why untouched = record { i = i; n = n; read = both; cause = why; unwritten = untouched }
IsErrorOf-run s i n TooManyNodes both why untouched = absurd why
IsErrorOf-run s i n ReadFault both why untouched = absurd why
IsErrorOf-run s i n WriteFault both why untouched = absurd why
IsErrorOf-run s i n NoWorker both why untouched = record { i = i; n = n; read = both; cause = why; unwritten = untouched }
IsErrorOf-run s i n NoMemory both why untouched = inr (record { i = i; n = n; read = both; cause = why; unwritten = untouched })

-- and so is why a machine came to no outcome
pub IsErrorOf-threads : (s : Session) (start : MachineState) (e : SessionError) → StartsAt s start → IsUntouched s.out
    → IsErrorOfThreads s.job start e → IsErrorOf s e
IsErrorOf-threads s start NoWorker starts untouched (workers, nodes) =
    let all : length start.nodes ≡ s.job.settings.nodes =
    ap (λ (m : MachineState). length m.nodes) starts.is ∙ length-fresh starts.m starts.n s.job.settings in
    record {
      i = starts.i;
      n = starts.n;
      read = starts.read;
      cause = record { m = starts.m; image = starts.image; workers = workers; nodes = rw all at nodes };
      unwritten = untouched;
    }
IsErrorOf-threads s start NoMemory starts untouched why = inr (record {
  i = starts.i;
  n = starts.n;
  read = starts.read;
  cause = tt;
  unwritten = untouched;
})
IsErrorOf-threads s start (BadSettings cause) starts untouched why = absurd why
IsErrorOf-threads s start TooLong starts untouched why = absurd why
IsErrorOf-threads s start (Text cause) starts untouched why = absurd why
IsErrorOf-threads s start (BadImage cause) starts untouched why = absurd why
IsErrorOf-threads s start SegmentOutside starts untouched why = absurd why
IsErrorOf-threads s start TooManyNodes starts untouched why = absurd why
IsErrorOf-threads s start ReadFault starts untouched why = absurd why
IsErrorOf-threads s start WriteFault starts untouched why = absurd why

-- or why its report was not all written
pub IsErrorOf-report : (s : Session) (start end : MachineState) (e : SessionError) → StartsAt s start → end ≡ end_of start
    → IsErrorOfReport s.job end s.out e → IsErrorOf s e
IsErrorOf-report s start end WriteFault starts is part =
    record { start = start; starts = starts; part = subst (λ (m : MachineState). IsReportPart s.job m s.out) is part }
IsErrorOf-report s start end NoMemory starts is untouched = inr (record {
  i = starts.i;
  n = starts.n;
  read = starts.read;
  cause = tt;
  unwritten = untouched;
})
IsErrorOf-report s start end NoWorker starts is why = absurd why
IsErrorOf-report s start end (BadSettings cause) starts is why = absurd why
IsErrorOf-report s start end TooLong starts is why = absurd why
IsErrorOf-report s start end (Text cause) starts is why = absurd why
IsErrorOf-report s start end (BadImage cause) starts is why = absurd why
IsErrorOf-report s start end SegmentOutside starts is why = absurd why
IsErrorOf-report s start end TooManyNodes starts is why = absurd why
IsErrorOf-report s start end ReadFault starts is why = absurd why

-- in which no thread has a part
pub IsErrorOfReport-worker : (job : Job) (end : MachineState) (out : Stream) (e : SessionError) → IsErrorOfReport job end out e
    → e ≢ NoWorker
IsErrorOfReport-worker job end out e why = λ is. subst (IsErrorOfReport job end out) is why

-- the report of the machine at the end of a run is the run's
pub ReportsFrom-end : (s : Session) (start end : MachineState) → StartsAt s start → end ≡ end_of start
    → Appends s.out.before s.out.after (report_of s.job end) → ReportsFrom s start
ReportsFrom-end s start end starts is written = record {
  starts = starts;
  written = subst (λ (m : MachineState). Appends s.out.before s.out.after (report_of s.job m)) is written;
}

-- settings are refused exactly where a job is refused for them
pub settings_exact : {X : Type 0} (s : Session) (r : Result X SessionError) → IfOk r (λ _. job_fault s.job ≡ None) → IfErr r (IsErrorOf s)
    → (cause : BadSetting) → IsErrOf r (BadSettings cause) ↔ (job_fault s.job ≡ Some (BadSettings cause))
settings_exact s (Ok x) none err cause = (λ is. cc, λ fault. cc)
settings_exact s (Err (BadSettings other)) none err cause = let fault = err.cause.0 in (λ is. cc, λ is. cc)
settings_exact s (Err TooLong) none err cause = let good = err.cause.settings in (λ is. cc, λ fault. cc)
settings_exact s (Err (Text fault)) none err cause = let good = err.read.settings in (λ is. cc, λ fault. cc)
settings_exact s (Err (BadImage fault)) none err cause = let good = err.read.settings in (λ is. cc, λ fault. cc)
settings_exact s (Err SegmentOutside) none err cause = let good = err.read.settings in (λ is. cc, λ fault. cc)
settings_exact s (Err TooManyNodes) none err cause = absurd err
settings_exact s (Err ReadFault) none err cause = let good = err.cause.settings in (λ is. cc, λ fault. cc)
settings_exact s (Err WriteFault) none err cause = let good = err.starts.read.settings in (λ is. cc, λ fault. cc)
settings_exact s (Err NoWorker) none err cause = let good = err.read.settings in (λ is. cc, λ fault. cc)
settings_exact s (Err NoMemory) none (inl ended) cause = let good = ended.cause.settings in (λ is. cc, λ fault. cc)
settings_exact s (Err NoMemory) none (inr ended) cause = let good = ended.read.settings in (λ is. cc, λ fault. cc)
