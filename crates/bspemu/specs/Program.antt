-- How the program ends (own rules).
use Rattle.std.specs.Prelude.{◌≡◌, ◌≢◌, ◌⊎◌, ◌++◌, ℕ, Bool, true, false, Option, None, List, Some, Result, Ok, Err, codes}
use Rattle.std.specs.Borrow.{Bor}
use Rattle.rv_atomics.specs.declared.extensions.Extensions.{Extensions}
use Rattle.clap.specs.Words.{Text, kind_of}
use Rattle.clap.specs.declared.error.Error.{Error}
use Rattle.clap.specs.declared.error.kind.ErrorKind.{ErrorKind}
use Rattle.clap.specs.declared.error.kind.ErrorKind.TheVariants.{DisplayHelp, DisplayVersion, OutOfMemory}
use Rattle.bsp_console.specs.Console.{Console}
use Rattle.bsp_console.specs.Dialogue.{AnswersDialogue, AnswersFramed, IsErrorOfDialogue, IsErrorOfFramed}
use Rattle.bsp_console.specs.Script.{AnswersScript, IsErrorOfScript}
use Rattle.bsp_session.specs.declared.errors.SessionError.{SessionError}
use Rattle.bsp_session.specs.declared.job.Format.{Format}
use Rattle.bsp_session.specs.declared.job.Format.TheVariants.{Asm}
use Rattle.bsp_session.specs.declared.job.Job.{Job}
use Rattle.machine_core.specs.declared.outcome.Outcome.{Outcome}
use Rattle.machine_core.specs.declared.outcome.Outcome.TheVariants.{Ended}
use Rattle.bsp_session.specs.Contested.{Contests, IsErrorOfContested}
use Rattle.bsp_session.specs.Counts.{Counts, IsErrorOfCounted}
use Rattle.bsp_session.specs.Conversion.{AnswersAssembly, AnswersListing, Conversion, IsErrorOfAssembly, IsErrorOfListing}
use Rattle.bsp_session.specs.Exposed.{Exposes, IsErrorOfExposed}
use Rattle.bsp_session.specs.Live.{IsErrorOfLive}
use Rattle.bsp_session.specs.Outcome.{status_of}
use Rattle.bsp_session.specs.Profiles.{IsErrorOfProfiled, Profiles}
use Rattle.bsp_session.specs.Session.{IsErrorOf, Reports, Session as BatchSession}
use Rattle.bsp_session.specs.Streams.{Stream}
use Rattle.bspemu.specs.declared.options.MachineOptions.{MachineOptions}
use Rattle.bspemu.specs.declared.options.OutputMode.{OutputMode}
use Rattle.bspemu.specs.declared.options.OutputMode.TheVariants.{AtEnd, Live, WithProfile, WithCounts, WithContested, WithExposed}
use Rattle.bspemu.specs.declared.options.DebugOptions.{DebugOptions}
use Rattle.bspemu.specs.declared.options.ListOptions.{ListOptions}
use Rattle.bspemu.specs.declared.options.AsmOptions.{AsmOptions}
use Rattle.bspemu.specs.declared.options.Action.{Action}
use Rattle.bspemu.specs.declared.options.Action.TheVariants as action
use Rattle.bspemu.specs.declared.program.RunError.{RunError}
use Rattle.bspemu.specs.declared.program.RunError.TheVariants.{CannotOpen, Session}
use Rattle.bspemu.specs.Options.{AsksFor, IsFaultOf}

-- what an error prints as, after the program's name; a session's is its own text
abbrev pub text_of_error : RunError → Option Text
text_of_error (CannotOpen path) = Some (codes "cannot open " ++ path.now)
text_of_error (Session error) = None

-- the options name this file: as the image, which is not standard input, or as the input
abbrev pub NamesFile : MachineOptions → Bor Text → Type 0
NamesFile o path = ((o.image.now ≢ codes "-") × (o.image ≡ path)) ⊎ (o.input ≡ Some path)

-- the file beside the output is this one
abbrev pub TellsTo : OutputMode → Bor Text → Type 0
TellsTo (WithProfile file) path = file ≡ path
TellsTo (WithCounts file) path = file ≡ path
TellsTo (WithContested file) path = file ≡ path
TellsTo (WithExposed file) path = file ≡ path
TellsTo _ path = ⊥

-- the answer of a session, and of one that has no outcome
abbrev pub answer_of_session : Result Outcome SessionError → Result Outcome RunError
answer_of_session (Ok outcome) = Ok outcome
answer_of_session (Err error) = Err (Session error)

abbrev pub answer_of_end : Result (Unit {0}) SessionError → Result Outcome RunError
answer_of_end (Ok done) = Ok Ended
answer_of_end (Err error) = Err (Session error)

-- an outcome that a session can have which tells of its run so
abbrev pub IsOutcomeOf : OutputMode → BatchSession → Outcome → Type 0
IsOutcomeOf AtEnd s outcome = Reports s outcome
IsOutcomeOf Live s outcome = Reports s outcome
IsOutcomeOf (WithProfile file) s outcome = (profile : Stream) × Profiles s profile outcome
IsOutcomeOf (WithCounts file) s outcome = (counts : Stream) × Counts s counts outcome
IsOutcomeOf (WithContested file) s outcome = (contested : Stream) × Contests s contested outcome
IsOutcomeOf (WithExposed file) s outcome = (exposed : Stream) × Exposes s exposed outcome

-- and an error
abbrev pub IsErrorTold : OutputMode → BatchSession → SessionError → Type 0
IsErrorTold AtEnd s error = IsErrorOf s error
IsErrorTold Live s error = IsErrorOfLive s error
IsErrorTold (WithProfile file) s error = (profile : Stream) × IsErrorOfProfiled s profile error
IsErrorTold (WithCounts file) s error = (counts : Stream) × IsErrorOfCounted s counts error
IsErrorTold (WithContested file) s error = (contested : Stream) × IsErrorOfContested s contested error
IsErrorTold (WithExposed file) s error = (exposed : Stream) × IsErrorOfExposed s exposed error

-- an answer that a run with these options can have which is told so, whatever its session reads and writes
abbrev pub IsAnswerOfRun : MachineOptions → OutputMode → Result Outcome RunError → Type 0
IsAnswerOfRun o output_mode (Ok outcome) = (s : BatchSession) × (s.job ≡ o.job) × IsOutcomeOf output_mode s outcome
IsAnswerOfRun o output_mode (Err (CannotOpen path)) = NamesFile o path ⊎ TellsTo output_mode path
IsAnswerOfRun o output_mode (Err (Session error)) = (s : BatchSession) × (s.job ≡ o.job) × IsErrorTold output_mode s error

-- lines were all answered with a debugger of such a job, in frames or not, and an error that this can have, whatever is read and written
abbrev pub AnswersLines : (framed : Bool) → Job → Type 0
AnswersLines true job = (c : Console) × (c.job ≡ job) × AnswersFramed c
AnswersLines false job = (c : Console) × (c.job ≡ job) × (AnswersScript c ⊎ AnswersDialogue c)

abbrev pub IsDebugError : (framed : Bool) → Job → SessionError → Type 0
IsDebugError true job error = (c : Console) × (c.job ≡ job) × IsErrorOfFramed c error
IsDebugError false job error = (c : Console) × (c.job ≡ job) × (IsErrorOfScript c error ⊎ IsErrorOfDialogue c error)

-- an answer that a debugger with these options can have
abbrev pub IsAnswerOfDebug : DebugOptions → Result Outcome RunError → Type 0
IsAnswerOfDebug o (Ok outcome) = (outcome ≡ Ended) × AnswersLines o.framed o.machine.job
IsAnswerOfDebug o (Err (CannotOpen path)) = NamesFile o.machine path
IsAnswerOfDebug o (Err (Session error)) = IsDebugError o.framed o.machine.job error

-- a file in this format was listed, with the names of the instructions of some extensions, and an error that this can have
abbrev pub IsListed : Extensions → Format → Type 0
IsListed extensions format = (c : Conversion) × (c.format ≡ format) × AnswersListing extensions c

abbrev pub IsListError : Extensions → Format → SessionError → Type 0
IsListError extensions format error = (c : Conversion) × (c.format ≡ format) × IsErrorOfListing extensions c error

-- an answer that a listing with these options can have
abbrev pub IsAnswerOfList : ListOptions → Result Outcome RunError → Type 0
IsAnswerOfList o (Ok outcome) = (outcome ≡ Ended) × IsListed o.extensions o.format
IsAnswerOfList o (Err (CannotOpen path)) = (o.image.now ≢ codes "-") × (o.image ≡ path)
IsAnswerOfList o (Err (Session error)) = IsListError o.extensions o.format error

-- the image of a text with the statements of some extensions was saved, and an error that this can have
abbrev pub IsSaved : Extensions → Type 0
IsSaved extensions = (c : Conversion) × (c.format ≡ Asm extensions) × AnswersAssembly c

abbrev pub IsAsmError : Extensions → SessionError → Type 0
IsAsmError extensions error = (c : Conversion) × (c.format ≡ Asm extensions) × IsErrorOfAssembly c error

-- an answer that an assembly with these options can have
abbrev pub IsAnswerOfAsm : AsmOptions → Result Outcome RunError → Type 0
IsAnswerOfAsm o (Ok outcome) = (outcome ≡ Ended) × IsSaved o.extensions
IsAnswerOfAsm o (Err (CannotOpen path)) = (o.text ≡ path) ⊎ (o.image ≡ path)
IsAnswerOfAsm o (Err (Session error)) = IsAsmError o.extensions error

-- an answer that an action can have
abbrev pub IsAnswer : Action → Result Outcome RunError → Type 0
IsAnswer (action.Run o) answer = IsAnswerOfRun o.machine o.output_mode answer
IsAnswer (action.Debug o) answer = IsAnswerOfDebug o answer
IsAnswer (action.List o) answer = IsAnswerOfList o answer
IsAnswer (action.Asm o) answer = IsAnswerOfAsm o answer

-- the exit status of an answer
abbrev pub status_of_answer : Result Outcome RunError → ℕ
status_of_answer (Ok outcome) = status_of (Ok outcome)
status_of_answer (Err (CannotOpen path)) = 6
status_of_answer (Err (Session error)) = status_of (Err error)

-- the exit status where words ask for nothing; help, or a version, that can't be written is a failed write
abbrev pub IsStatusOfKind : ErrorKind → ℕ → Type 0
IsStatusOfKind OutOfMemory status = status ≡ 5
IsStatusOfKind DisplayHelp status = (status ≡ 0) ⊎ (status ≡ 6)
IsStatusOfKind DisplayVersion status = (status ≡ 0) ⊎ (status ≡ 6)
IsStatusOfKind _ status = status ≡ 1

-- the words ask for an action, and this is the status of an answer that it can have
pub record EndsAction (words : List Text) (status : ℕ) : Type 0 where
  pub action : Action
  pub asked : AsksFor words action
  pub answer : Result Outcome RunError
  pub answered : IsAnswer action answer
  pub status_is : status ≡ status_of_answer answer

-- the words ask for nothing, and this is the status of such a fault
pub record EndsRefused (words : List Text) (status : ℕ) : Type 0 where
  pub error : Error
  pub fault : IsFaultOf words error
  pub status_is : IsStatusOfKind (kind_of error) status

-- how the program ends on these words
abbrev pub Ends : List Text → ℕ → Type 0
Ends words status = EndsAction words status ⊎ EndsRefused words status

-- how it ends on the words that the system gives; where they can't be had, memory ran out, or one of them is no text
abbrev pub EndsOnItsWords : ℕ → Type 0
EndsOnItsWords status = ((words : List Text) × Ends words status) ⊎ (status ≡ 5) ⊎ (status ≡ 1)
