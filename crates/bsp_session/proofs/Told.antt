-- What a session that also writes a text on its run comes to, by the stage that ended it.
use Rattle.std.proofs.Common.{◌≡◌, ◌≢◌, ℕ, List, inl, inr, subst, Some}
use Rattle.machine_core.specs.declared.outcome.Outcome.{Outcome}
use Rattle.machine_core.specs.Machine.{MachineState}
use Rattle.machine_core.specs.Turn.{end_of}
use Rattle.bsp_session.specs.declared.errors.SessionError.{SessionError}
use Rattle.bsp_session.specs.declared.errors.SessionError.TheVariants.{BadSettings, TooLong, Text, BadImage, SegmentOutside, ReadFault}
use Rattle.bsp_session.specs.declared.errors.SessionError.TheVariants.{TooManyNodes, WriteFault, NoWorker, NoMemory}
use Rattle.bsp_session.specs.declared.job.Job.{Job}
use Rattle.bsp_session.specs.Session.{IsErrorOf, IsErrorOfReport, Session, StartsAt}
use Rattle.bsp_session.specs.Streams.{IsUntouched, Stream}
use Rattle.bsp_session.specs.Told.{IsErrorOfBoth, IsErrorOfTold, ReportsAndTells, WritesBoth}
use Rattle.bsp_session.proofs.SessionErrors.{IsErrorOf-report, ReportsFrom-end}

-- an error of the session, whose text was not begun
pub untold : (Tells : MachineState → List ℕ → Type 0) (s : Session) (told : Stream) (e : SessionError) → IsErrorOf s e → IsUntouched told
    → IsErrorOfTold Tells s told e
untold Tells s told (BadSettings cause) why untouched = (why, untouched)
untold Tells s told TooLong why untouched = (why, untouched)
untold Tells s told (Text cause) why untouched = (why, untouched)
untold Tells s told (BadImage cause) why untouched = (why, untouched)
untold Tells s told SegmentOutside why untouched = (why, untouched)
untold Tells s told TooManyNodes why untouched = (why, untouched)
untold Tells s told ReadFault why untouched = (why, untouched)
untold Tells s told WriteFault why untouched = inl (why, untouched)
untold Tells s told NoWorker why untouched = (why, untouched)
untold Tells s told NoMemory why untouched = (why, untouched)

-- why a report was not all written, before a text that was not begun
pub unbegun : (job : Job) (end : MachineState) (text : List ℕ) (out told : Stream) (e : SessionError) → IsErrorOfReport job end out e
    → IsUntouched told
    → IsErrorOfBoth job end text out told e
unbegun job end text out told WriteFault why untouched = inl (why, untouched)
unbegun job end text out told NoMemory why untouched = (why, untouched)
unbegun job end text out told NoWorker why untouched = absurd why
unbegun job end text out told (BadSettings cause) why untouched = absurd why
unbegun job end text out told TooLong why untouched = absurd why
unbegun job end text out told (Text cause) why untouched = absurd why
unbegun job end text out told (BadImage cause) why untouched = absurd why
unbegun job end text out told SegmentOutside why untouched = absurd why
unbegun job end text out told TooManyNodes why untouched = absurd why
unbegun job end text out told ReadFault why untouched = absurd why

-- in which no thread has a part
pub IsErrorOfBoth-worker : (job : Job) (end : MachineState) (text : List ℕ) (out told : Stream) (e : SessionError)
    → IsErrorOfBoth job end text out told e → e ≢ NoWorker
IsErrorOfBoth-worker job end text out told e why = λ is. subst (IsErrorOfBoth job end text out told) is why

module _ (Tells : MachineState → List ℕ → Type 0) (s : Session) (told : Stream) (start end : MachineState) (text : List ℕ)
    (starts : StartsAt s start) (is : end ≡ end_of start) (tells : Tells start text) where
  -- both were written
  pub ReportsAndTells-both : (o : Outcome) → WritesBoth s.job end text s.out told o → ReportsAndTells Tells s told o
  ReportsAndTells-both o both = record {
    start = start;
    reports = ReportsFrom-end s start end starts is both.report;
    outcome = subst (λ (m : MachineState). m.outcome ≡ Some o) is both.outcome;
    text = text;
    tells = tells;
    written = both.beside;
  }

  -- they were not
  pub IsErrorOfTold-both : (e : SessionError) → IsErrorOfBoth s.job end text s.out told e → IsErrorOfTold Tells s told e
  IsErrorOfTold-both WriteFault (inl why) = inl (IsErrorOf-report s start end WriteFault starts is why.0, why.1)
  IsErrorOfTold-both WriteFault (inr both) = inr (record {
    start = start;
    reports = ReportsFrom-end s start end starts is both.report;
    text = text;
    tells = tells;
    part = both.part;
  })
  IsErrorOfTold-both NoMemory why = (IsErrorOf-report s start end NoMemory starts is why.0, why.1)
  IsErrorOfTold-both NoWorker why = absurd why
  IsErrorOfTold-both (BadSettings cause) why = absurd why
  IsErrorOfTold-both TooLong why = absurd why
  IsErrorOfTold-both (Text cause) why = absurd why
  IsErrorOfTold-both (BadImage cause) why = absurd why
  IsErrorOfTold-both SegmentOutside why = absurd why
  IsErrorOfTold-both TooManyNodes why = absurd why
  IsErrorOfTold-both ReadFault why = absurd why
