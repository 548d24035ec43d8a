-- The errors of a session that writes while the run goes on, by the stage that ended it.
use Rattle.std.proofs.Common.{◌≡◌, ◌⊎◌, ℕ, inl, inr, ◌+◌, ◌<◌, ◌≤◌, List, [], ◌++◌, length, take, Option, Some, None, Result, Ok, Err, refl}
use Rattle.std.proofs.Common.{sym, subst, ap, ◌∙◌, arith, true, append_assoc, append-nil, length-append}
use Rattle.std.specs.Prelude.{IfErr, IsErrOf, ◌≢◌, ◌↔◌}
use Rattle.std.specs.Fn.{iterate}
use Rattle.std.specs.Io.KnownBytes.{Appends}
use Rattle.std.proofs.KnownBytes.{Appends-nil, Appends-trans}
use Rattle.std.proofs.Math.Seq.{take-append-add}
use Rattle.std.proofs.lemmas.List.{take-append-le}
use Rattle.machine_core.specs.Machine.{MachineState, fresh}
use Rattle.machine_core.specs.Turn.{end_of, superstep, with_phases, written}
use Rattle.worker_pool.specs.declared.error.PoolError.{PoolError}
use Rattle.worker_pool.specs.declared.error.PoolError.TheVariants as pool
use Rattle.worker_pool.specs.Numbers.{numbers_fault}
use Rattle.bsp_session.specs.declared.errors.BadSetting.{BadSetting}
use Rattle.bsp_session.specs.declared.errors.SessionError.{SessionError}
use Rattle.bsp_session.specs.declared.errors.SessionError.TheVariants.{BadSettings, TooLong, Text, BadImage, SegmentOutside, ReadFault}
use Rattle.bsp_session.specs.declared.errors.SessionError.TheVariants.{TooManyNodes, WriteFault, NoWorker, NoMemory}
use Rattle.bsp_session.specs.declared.job.Job.{Job}
use Rattle.bsp_session.specs.Live.{AppendsSome, FailsAt, IsErrorOfLive, IsErrorOfLiveRun, IsErrorOfSuperstep, MayComeLate, WantsThreads}
use Rattle.bsp_session.specs.Live.{IsErrorOfPlainRun, IsErrorOfPlainSuperstep}
use Rattle.bsp_session.specs.Outcome.{error_of_pool}
use Rattle.bsp_session.specs.Report.{report_lines, report_of}
use Rattle.bsp_session.specs.Session.{IsErrorOf, Session, StartsAt, job_fault}
use Rattle.bsp_session.specs.Streams.{IsUntouched, Stream}
use Rattle.bsp_session.proofs.Supersteps.{extends-end, output-open}
use Rattle.bsp_session.proofs.Outputs.{HasRisen-above}

-- some first bytes of what comes next, after what was written, are some of all
pub AppendsSome-behind : (done next rest whole : List ℕ) (a b c : Option (List ℕ)) → whole ≡ done ++ (next ++ rest)
    → Appends a b done → AppendsSome b c next → AppendsSome a c whole
AppendsSome-behind done next rest whole a b c is before p =
    let few : p.0 ≤ length next = p.1 in
    let some : 0 < length next = p.2 in
    let long : length whole ≡ length done + (length next + length rest) =
    ap (λ (xs : List ℕ). length xs) is ∙ length-append done (next ++ rest) ∙ ap (λ n. length done + n) (length-append next rest) in
    let cut : take (length done + p.0) whole ≡ done ++ take p.0 next =
    rw (is, take-append-add done (next ++ rest) p.0)
    (ap (λ ys. done ++ ys) (take-append-le p.0 next rest few)) in
    (length done + p.0, omega arith, omega arith, rw cut (Appends-trans a b c done (take p.0 next) before p.3))

-- some first bytes are some of more
pub AppendsSome-more : (bytes rest : List ℕ) (a b : Option (List ℕ)) → AppendsSome a b bytes → AppendsSome a b (bytes ++ rest)
AppendsSome-more bytes rest a b p = AppendsSome-behind [] bytes rest (bytes ++ rest) a a b refl (Appends-nil a) p

-- an error of a superstep in one thread, after the supersteps before it
pub IsErrorOfPlainRun-at : (start m : MachineState) (k : ℕ) (out next : Stream) (e : SessionError)
    → m ≡ iterate superstep k start
    → end_of (superstep m) ≡ end_of start → m.outcome ≡ None → out.after ≡ next.after
    → out.failures_after ≡ next.failures_after
    → out.failures_before ≤ next.failures_before → Appends out.before next.before m.output → IsErrorOfPlainSuperstep m next e
    → IsErrorOfPlainRun start out e
IsErrorOfPlainRun-at start m k out next WriteFault is ends none same count rises before (some, failed) =
    let rest = extends-end (superstep m) in
    let whole : (end_of start).output ≡ m.output ++ (written (with_phases m).nodes ++ rest.0) =
    ap (λ (x : MachineState). x.output) (sym ends) ∙ rest.1 ∙ ap (λ bs. bs ++ rest.0) (output-open m (rw none refl))
    ∙ append_assoc m.output (written (with_phases m).nodes) rest.0 in (
      rw same (AppendsSome-behind m.output (written (with_phases m).nodes) rest.0 (end_of start).output out.before next.before next.after
          whole before some),
      rw count (HasRisen-above _ _ _ rises failed),
    )
IsErrorOfPlainRun-at start m k out next NoMemory is ends none same count rises before untouched =
    (m, record { count = k; is = is; written = rw (same, untouched.bytes) before }, none)
IsErrorOfPlainRun-at start m k out next NoWorker is ends none same count rises before p = absurd p
IsErrorOfPlainRun-at start m k out next (BadSettings cause) is ends none same count rises before p = absurd p
IsErrorOfPlainRun-at start m k out next TooLong is ends none same count rises before p = absurd p
IsErrorOfPlainRun-at start m k out next (Text cause) is ends none same count rises before p = absurd p
IsErrorOfPlainRun-at start m k out next (BadImage cause) is ends none same count rises before p = absurd p
IsErrorOfPlainRun-at start m k out next SegmentOutside is ends none same count rises before p = absurd p
IsErrorOfPlainRun-at start m k out next TooManyNodes is ends none same count rises before p = absurd p
IsErrorOfPlainRun-at start m k out next ReadFault is ends none same count rises before p = absurd p

-- and in any number of threads
pub IsErrorOfLiveRun-at : (job : Job) (start m : MachineState) (k : ℕ) (out next : Stream) (e : SessionError)
    → m ≡ iterate superstep k start
    → end_of (superstep m) ≡ end_of start → m.settings ≡ start.settings → m.outcome ≡ None → out.after ≡ next.after
    → out.failures_after ≡ next.failures_after
    → out.failures_before ≤ next.failures_before → Appends out.before next.before m.output → IsErrorOfSuperstep job m next e
    → IsErrorOfLiveRun job start out e
IsErrorOfLiveRun-at job start m k out next WriteFault is ends settings none same count rises before p =
    IsErrorOfPlainRun-at start m k out next WriteFault is ends none same count rises before p
IsErrorOfLiveRun-at job start m k out next NoWorker is ends settings none same count rises before (untouched, wanted) = (
  (m, record { count = k; is = is; written = rw (same, untouched.bytes) before }, none),
  (wanted.0, rw (← settings) wanted.1),
)
IsErrorOfLiveRun-at job start m k out next NoMemory is ends settings none same count rises before untouched =
    IsErrorOfPlainRun-at start m k out next NoMemory is ends none same count rises before untouched
IsErrorOfLiveRun-at job start m k out next (BadSettings cause) is ends settings none same count rises before p = absurd p
IsErrorOfLiveRun-at job start m k out next TooLong is ends settings none same count rises before p = absurd p
IsErrorOfLiveRun-at job start m k out next (Text cause) is ends settings none same count rises before p = absurd p
IsErrorOfLiveRun-at job start m k out next (BadImage cause) is ends settings none same count rises before p = absurd p
IsErrorOfLiveRun-at job start m k out next SegmentOutside is ends settings none same count rises before p = absurd p
IsErrorOfLiveRun-at job start m k out next TooManyNodes is ends settings none same count rises before p = absurd p
IsErrorOfLiveRun-at job start m k out next ReadFault is ends settings none same count rises before p = absurd p

-- it may come late
pub late : (job : Job) (start : MachineState) (out : Stream) (e : SessionError) → IsErrorOfLiveRun job start out e → MayComeLate e
late job start out WriteFault p = tt
late job start out NoWorker p = tt
late job start out NoMemory p = tt
late job start out (BadSettings cause) p = absurd p
late job start out TooLong p = absurd p
late job start out (Text cause) p = absurd p
late job start out (BadImage cause) p = absurd p
late job start out SegmentOutside p = absurd p
late job start out TooManyNodes p = absurd p
late job start out ReadFault p = absurd p

-- and is one of the session
pub IsErrorOfLive-run : (s : Session) (start : MachineState) (e : SessionError) → StartsAt s start → IsErrorOfLiveRun s.job start s.out e
    → IsErrorOfLive s e
IsErrorOfLive-run s start WriteFault starts (some, failed) =
    (start, starts, (AppendsSome-more (end_of start).output (report_lines s.job (end_of start)) s.out.before s.out.after some, failed))
IsErrorOfLive-run s start NoWorker starts (short, wanted) = (start, starts, (short, wanted))
IsErrorOfLive-run s start NoMemory starts short = inr (start, starts, inl short)
IsErrorOfLive-run s start (BadSettings cause) starts p = absurd p
IsErrorOfLive-run s start TooLong starts p = absurd p
IsErrorOfLive-run s start (Text cause) starts p = absurd p
IsErrorOfLive-run s start (BadImage cause) starts p = absurd p
IsErrorOfLive-run s start SegmentOutside starts p = absurd p
IsErrorOfLive-run s start TooManyNodes starts p = absurd p
IsErrorOfLive-run s start ReadFault starts p = absurd p

-- so is an error of a session that writes at the end
pub IsErrorOfLive-of : (s : Session) (e : SessionError) → IsErrorOf s e → IsErrorOfLive s e
IsErrorOfLive-of s WriteFault why = (
  why.start,
  why.starts,
  ((why.part.written.0, omega (arith, why.part.written.1), omega (arith, why.part.written.1), why.part.written.2), why.part.failed),
)
IsErrorOfLive-of s NoWorker why =
    let start : MachineState = fresh why.cause.m why.n s.job.settings in (
      start,
      record { i = why.i; n = why.n; m = why.cause.m; read = why.read; image = why.cause.image; is = refl },
      (
        (start, record { count = 0; is = refl; written = rw why.unwritten.bytes (Appends-nil s.out.before) }, refl),
        (why.cause.workers, why.cause.nodes),
      ),
    )
IsErrorOfLive-of s NoMemory why = inl why
IsErrorOfLive-of s (BadSettings cause) why = why
IsErrorOfLive-of s TooLong why = why
IsErrorOfLive-of s (Text cause) why = why
IsErrorOfLive-of s (BadImage cause) why = why
IsErrorOfLive-of s SegmentOutside why = why
IsErrorOfLive-of s TooManyNodes why = why
IsErrorOfLive-of s ReadFault why = why

-- and why the lines behind the whole output were not all written
pub IsErrorOfLive-lines : (s : Session) (start end : MachineState) (here : Stream) (e : SessionError) → StartsAt s start
    → end ≡ end_of start
    → s.out.after ≡ here.after → s.out.failures_after ≡ here.failures_after → s.out.failures_before ≤ here.failures_before
    → Appends s.out.before here.before end.output
    → ((e ≡ NoMemory) × (s.job.report ≡ true) × IsUntouched here) ⊎ ((e ≡ WriteFault) × FailsAt here (report_lines s.job end))
    → IsErrorOfLive s e
IsErrorOfLive-lines s start end here e starts ends same count rises before (inl (is, asked, untouched)) =
    rw is (inr (start, starts, inr (asked, rw (same, untouched.bytes, ← ends) before)))
IsErrorOfLive-lines s start end here e starts ends same count rises before (inr (is, (some, failed))) =
    let whole : report_of s.job (end_of start) ≡ end.output ++ (report_lines s.job end ++ []) =
    ap (report_of s.job) (sym ends) ∙ ap (λ bs. end.output ++ bs) (sym (append-nil (report_lines s.job end))) in
    rw is (
      start,
      starts,
      (
        rw same (AppendsSome-behind end.output (report_lines s.job end) [] (report_of s.job (end_of start)) s.out.before here.before
            here.after whole before some),
        rw count (HasRisen-above _ _ _ rises failed),
      ),
    )

-- they may come late
pub late_lines : (job : Job) (end : MachineState) (here : Stream) (e : SessionError)
    → ((e ≡ NoMemory) × (job.report ≡ true) × IsUntouched here) ⊎ ((e ≡ WriteFault) × FailsAt here (report_lines job end)) → MayComeLate e
late_lines job end here e (inl why) = rw why.0 tt
late_lines job end here e (inr why) = rw why.0 tt

-- why a superstep was not made: the pool was refused something, for its numbers are good
pub IsErrorOfSuperstep-of_pool : (job : Job) (m : MachineState) (out : Stream) (cause : PoolError)
    → numbers_fault job.workers job.slice ≡ None
    → (cause ≡ pool.BadWorkers → numbers_fault job.workers job.slice ≡ Some pool.BadWorkers)
    → (cause ≡ pool.BadSlice → numbers_fault job.workers job.slice ≡ Some pool.BadSlice)
    → (cause ≡ pool.NoWorker → WantsThreads job m) → IsUntouched out → IsErrorOfSuperstep job m out (error_of_pool cause)
IsErrorOfSuperstep-of_pool job m out pool.BadWorkers none workers slice wanted untouched = let fault = workers refl in cc
IsErrorOfSuperstep-of_pool job m out pool.BadSlice none workers slice wanted untouched = let fault = slice refl in cc
IsErrorOfSuperstep-of_pool job m out pool.NoWorker none workers slice wanted untouched = (untouched, wanted refl)
IsErrorOfSuperstep-of_pool job m out pool.NoMemory none workers slice wanted untouched = untouched

-- an error that may come late refuses no settings, and these are good
pub settings_late : {X : Type 0} (job : Job) (r : Result X SessionError) → job_fault job ≡ None → IfErr r MayComeLate
    → (cause : BadSetting) → IsErrOf r (BadSettings cause) ↔ (job_fault job ≡ Some (BadSettings cause))
settings_late job (Ok x) none late cause = (λ is. cc, λ fault. cc)
settings_late job (Err WriteFault) none late cause = (λ is. cc, λ fault. cc)
settings_late job (Err NoWorker) none late cause = (λ is. cc, λ fault. cc)
settings_late job (Err NoMemory) none late cause = (λ is. cc, λ fault. cc)
settings_late job (Err (BadSettings other)) none late cause = absurd late
settings_late job (Err TooLong) none late cause = absurd late
settings_late job (Err (Text fault)) none late cause = absurd late
settings_late job (Err (BadImage fault)) none late cause = absurd late
settings_late job (Err SegmentOutside) none late cause = absurd late
settings_late job (Err TooManyNodes) none late cause = absurd late
settings_late job (Err ReadFault) none late cause = absurd late

-- ---- in one thread

-- a run in one thread ends as one with any number of workers may
pub IsErrorOfLiveRun-plain : (job : Job) (start : MachineState) (out : Stream) (e : SessionError) → IsErrorOfPlainRun start out e
    → IsErrorOfLiveRun job start out e
IsErrorOfLiveRun-plain job start out WriteFault p = p
IsErrorOfLiveRun-plain job start out NoMemory p = p
IsErrorOfLiveRun-plain job start out NoWorker p = absurd p
IsErrorOfLiveRun-plain job start out (BadSettings cause) p = absurd p
IsErrorOfLiveRun-plain job start out TooLong p = absurd p
IsErrorOfLiveRun-plain job start out (Text cause) p = absurd p
IsErrorOfLiveRun-plain job start out (BadImage cause) p = absurd p
IsErrorOfLiveRun-plain job start out SegmentOutside p = absurd p
IsErrorOfLiveRun-plain job start out TooManyNodes p = absurd p
IsErrorOfLiveRun-plain job start out ReadFault p = absurd p

-- no thread has a part in it
pub IsErrorOfPlainRun-worker : (start : MachineState) (out : Stream) (e : SessionError) → IsErrorOfPlainRun start out e → e ≢ NoWorker
IsErrorOfPlainRun-worker start out e why = λ is. subst (IsErrorOfPlainRun start out) is why

pub lines-worker : (job : Job) (end : MachineState) (here : Stream) (e : SessionError)
    → ((e ≡ NoMemory) × (job.report ≡ true) × IsUntouched here) ⊎ ((e ≡ WriteFault) × FailsAt here (report_lines job end)) → e ≢ NoWorker
lines-worker job end here e (inl why) = rw why.0 (λ is. cc)
lines-worker job end here e (inr why) = rw why.0 (λ is. cc)
