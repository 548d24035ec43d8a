-- What a session's answer is among those of the program.
use Rattle.std.proofs.Common.{◌≡◌, Result, Ok, Err, None, refl}
use Rattle.std.specs.Prelude.{IfErr, IfOk, OnOk}
use Rattle.std.specs.Borrow.{Bor}
use Rattle.clap.specs.Words.{Text}
use Rattle.machine_core.specs.declared.outcome.Outcome.{Outcome}
use Rattle.bsp_session.specs.declared.errors.SessionError.{SessionError}
use Rattle.bsp_session.specs.declared.errors.SessionError.TheVariants.{TooManyNodes}
use Rattle.bsp_session.specs.declared.job.Format.TheVariants.{Asm}
use Rattle.bsp_session.specs.Contested.{Contests, IsErrorOfContested}
use Rattle.bsp_session.specs.Conversion.{AnswersAssembly, AnswersListing, Conversion, IsErrorOfAssembly, IsErrorOfListing}
use Rattle.bsp_session.specs.Counts.{Counts, IsErrorOfCounted}
use Rattle.bsp_session.specs.Exposed.{Exposes, IsErrorOfExposed}
use Rattle.bsp_session.specs.Live.{IsErrorOfLive}
use Rattle.bsp_session.specs.Profiles.{HasTooManyNodes, IsErrorOfProfiled, Profiles}
use Rattle.bsp_session.specs.Session.{IsErrorOf, Reports, Session as BatchSession, session_of}
use Rattle.bsp_session.specs.Streams.{Stream}
use Rattle.bspemu.specs.declared.program.RunError.TheVariants.{Session}
use Rattle.bspemu.specs.declared.options.AsmOptions.{AsmOptions}
use Rattle.bspemu.specs.declared.options.DebugOptions.{DebugOptions}
use Rattle.bspemu.specs.declared.options.ListOptions.{ListOptions}
use Rattle.bspemu.specs.declared.options.MachineOptions.{MachineOptions}
use Rattle.bspemu.specs.declared.options.OutputMode.TheVariants.{AtEnd, Live, WithContested, WithCounts, WithExposed, WithProfile}
use Rattle.bspemu.specs.Program.{AnswersLines, IsAnswerOfAsm, IsAnswerOfDebug, IsAnswerOfList}
use Rattle.bspemu.specs.Program.{IsAnswerOfRun, IsDebugError, answer_of_end, answer_of_session}

pub answer_at_end : (o : MachineOptions) (s : BatchSession) (r : Result Outcome SessionError) → s.job ≡ o.job
    → IfOk r (Reports s) → IfErr r (IsErrorOf s) → IsAnswerOfRun o AtEnd (answer_of_session r)
answer_at_end o s (Ok outcome) same ok err = (s, same, ok)
answer_at_end o s (Err e) same ok err = (s, same, err)

pub answer_of_live : (o : MachineOptions) (s : BatchSession) (r : Result Outcome SessionError) → s.job ≡ o.job
    → IfOk r (Reports s) → IfErr r (IsErrorOfLive s) → IsAnswerOfRun o Live (answer_of_session r)
answer_of_live o s (Ok outcome) same ok err = (s, same, ok)
answer_of_live o s (Err e) same ok err = (s, same, err)

pub answer_of_profiled : (o : MachineOptions) (file : Bor Text) (s : BatchSession) (profile : Stream) (r : Result Outcome SessionError)
    → s.job ≡ o.job
    → IfOk r (Profiles s profile) → IfErr r (IsErrorOfProfiled s profile) → IsAnswerOfRun o (WithProfile file) (answer_of_session r)
answer_of_profiled o file s profile (Ok outcome) same ok err = (s, same, (profile, ok))
answer_of_profiled o file s profile (Err e) same ok err = (s, same, (profile, err))

-- too many nodes are refused before anything is read or written
pub answer_of_too_many : (o : MachineOptions) (file : Bor Text) → HasTooManyNodes o.job
    → IsAnswerOfRun o (WithProfile file) (Err (Session TooManyNodes))
answer_of_too_many o file many =
    let none : Stream = record { before = None; after = None; failures_before = 0; failures_after = 0 } in (
      session_of none none none o.job,
      refl,
      (
        none,
        record {
          nodes = many;
          image = record { bytes = refl; failures = refl };
          input = record { bytes = refl; failures = refl };
          out = record { bytes = refl; failures = refl };
          unwritten = record { bytes = refl; failures = refl };
        },
      ),
    )

pub answer_of_counted : (o : MachineOptions) (file : Bor Text) (s : BatchSession) (counts : Stream) (r : Result Outcome SessionError)
    → s.job ≡ o.job
    → IfOk r (Counts s counts) → IfErr r (IsErrorOfCounted s counts) → IsAnswerOfRun o (WithCounts file) (answer_of_session r)
answer_of_counted o file s counts (Ok outcome) same ok err = (s, same, (counts, ok))
answer_of_counted o file s counts (Err e) same ok err = (s, same, (counts, err))

pub answer_of_contested : (o : MachineOptions) (file : Bor Text) (s : BatchSession) (contested : Stream) (r : Result Outcome SessionError)
    → s.job ≡ o.job
    → IfOk r (Contests s contested) → IfErr r (IsErrorOfContested s contested) → IsAnswerOfRun o (WithContested file) (answer_of_session r)
answer_of_contested o file s contested (Ok outcome) same ok err = (s, same, (contested, ok))
answer_of_contested o file s contested (Err e) same ok err = (s, same, (contested, err))

pub answer_of_exposed : (o : MachineOptions) (file : Bor Text) (s : BatchSession) (exposed : Stream) (r : Result Outcome SessionError)
    → s.job ≡ o.job
    → IfOk r (Exposes s exposed) → IfErr r (IsErrorOfExposed s exposed) → IsAnswerOfRun o (WithExposed file) (answer_of_session r)
answer_of_exposed o file s exposed (Ok outcome) same ok err = (s, same, (exposed, ok))
answer_of_exposed o file s exposed (Err e) same ok err = (s, same, (exposed, err))

pub answer_of_debug : (o : DebugOptions) (r : Result (Unit {0}) SessionError) → OnOk r (AnswersLines o.framed o.machine.job)
    → IfErr r (IsDebugError o.framed o.machine.job) → IsAnswerOfDebug o (answer_of_end r)
answer_of_debug o (Ok done) ok err = (refl, ok)
answer_of_debug o (Err e) ok err = err

pub answer_of_list : (o : ListOptions) (c : Conversion) (r : Result (Unit {0}) SessionError) → c.format ≡ o.format
    → OnOk r (AnswersListing o.extensions c) → IfErr r (IsErrorOfListing o.extensions c) → IsAnswerOfList o (answer_of_end r)
answer_of_list o c (Ok done) same ok err = (refl, (c, same, ok))
answer_of_list o c (Err e) same ok err = (c, same, err)

pub answer_of_asm : (o : AsmOptions) (c : Conversion) (r : Result (Unit {0}) SessionError) → c.format ≡ Asm o.extensions
    → OnOk r (AnswersAssembly c) → IfErr r (IsErrorOfAssembly c) → IsAnswerOfAsm o (answer_of_end r)
answer_of_asm o c (Ok done) same ok err = (refl, (c, same, ok))
answer_of_asm o c (Err e) same ok err = (c, same, err)
