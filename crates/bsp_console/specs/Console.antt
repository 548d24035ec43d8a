-- What the sessions with the debugger share: what they read and write, the debugger with which the lines begin, and the replies that
-- stand written. All over the bytes of readers and of a writer, where they are known.
use Rattle.std.specs.Prelude.{◌≡◌, ℕ, ◌^◌, ◌≤◌, List, [], ◌∷◌, ◌++◌, length, take, Option, option_map}
use Rattle.std.specs.Io.KnownBytes.{Appends}
use Rattle.node_memory.specs.Image.{Image}
use Rattle.machine_core.specs.declared.settings.Settings.{Settings}
use Rattle.machine_core.specs.Machine.{fresh, settings_fault}
use Rattle.bsp_debug.specs.Debugger.{DebuggerState}
use Rattle.bsp_session.specs.declared.errors.SessionError.{SessionError}
use Rattle.bsp_session.specs.declared.errors.SessionError.TheVariants.{Text, BadImage, SegmentOutside}
use Rattle.bsp_session.specs.declared.job.Job.{Job}
use Rattle.bsp_session.specs.Outcome.{error_of_machine}
use Rattle.bsp_session.specs.Streams.{Stream, IsUntouched, HasFailed}
use Rattle.bsp_session.specs.Session.{HasImage, IsErrorOfFiles, IsErrorOfImage, ReadsFiles}
use Rattle.bsp_console.specs.Talk.{Says, Talks}

-- what a session reads, what it writes to, and what it is asked. The bytes of the writer are those that it holds
pub record Console : Type 0 where
  pub image : Stream
  pub input : Stream
  pub script : Stream
  pub out : Stream
  pub job : Job

abbrev pub console_of : (image input script out : Stream) → Job → Console
console_of image input script out job = record { image = image; input = input; script = script; out = out; job = job }

-- the most bytes of a script (own limit)
abbrev pub most_script : ℕ
most_script = 2 ^ 20

-- ---- the order of work, up to the lines

-- the setting of the machine that is out of its range, if one is. Workers and slice are not looked at
abbrev pub console_fault : Job → Option SessionError
console_fault job = option_map error_of_machine (settings_fault job.settings)

-- a setting was bad, or an image's file and an input were not both read, for this; nothing else was touched
pub record StopsAtFiles (c : Console) (e : SessionError) : Type 0 where
  pub cause : IsErrorOfFiles console_fault c.job c.image c.input e
  pub unread : IsUntouched c.script
  pub unwritten : IsUntouched c.out

-- a debugger of a fresh machine
abbrev pub first_debugger : Image → List ℕ → Settings → DebuggerState
first_debugger image input settings =
    let m = fresh image input settings in
    record { first = m; machine = m; kept = []; points = []; last = [] }

-- the file gives an image that fits the memory, and the debugger is that of its machine
pub record IsDebuggerOf (job : Job) (i n : List ℕ) (d : DebuggerState) : Type 0 where
  pub m : Image
  pub image : HasImage job i m
  pub is : d ≡ first_debugger m n job.settings

-- the image's file was refused
abbrev pub RefusesImage : SessionError → Type 0
RefusesImage (Text cause) = Unit {0}
RefusesImage (BadImage cause) = Unit {0}
RefusesImage SegmentOutside = Unit {0}
RefusesImage _ = ⊥

-- both were read, and this is the debugger with which the lines begin
pub record Begins (c : Console) (start : DebuggerState) : Type 0 where
  pub i : List ℕ
  pub n : List ℕ
  pub read : ReadsFiles console_fault c.job c.image c.input i n
  pub debugger : IsDebuggerOf c.job i n start

-- the debugger began, and this came of it
pub record BeginsTo (what : DebuggerState → Type 0) (c : Console) : Type 0 where
  pub start : DebuggerState
  pub begins : Begins c start
  pub came : what start

-- both were read, there is no debugger, for this, and nothing was written
pub record HasNoDebugger (c : Console) (e : SessionError) : Type 0 where
  pub i : List ℕ
  pub n : List ℕ
  pub read : ReadsFiles console_fault c.job c.image c.input i n
  pub cause : IsErrorOfImage c.job i e
  pub unwritten : IsUntouched c.out

-- ---- replies

-- the replies to these lines were written, and nothing else. The debugger begins as `start`
pub record WritesReplies (says : Says) (lines : List (List ℕ)) (start : DebuggerState) (out : Stream) : Type 0 where
  pub text : List ℕ
  pub now : DebuggerState
  pub talks : Talks says lines start text now
  pub written : Appends out.before out.after text

-- the replies to some first ones of these lines were written, whole, and nothing of the reply to the next one
pub record StopsBefore (says : Says) (lines : List (List ℕ)) (start : DebuggerState) (out : Stream) : Type 0 where
  pub done : List (List ℕ)
  pub next : List ℕ
  pub rest : List (List ℕ)
  pub are : lines ≡ done ++ next ∷ rest
  pub written : WritesReplies says done start out

-- the writer failed: the replies to the first lines `done` were written whole, and of the reply to `next` the first `count` bytes
pub record CutsReply (says : Says) (lines : List (List ℕ)) (start : DebuggerState) (out : Stream) : Type 0 where
  pub done : List (List ℕ)
  pub next : List ℕ
  pub rest : List (List ℕ)
  pub are : lines ≡ done ++ next ∷ rest
  pub text : List ℕ
  pub before : DebuggerState
  pub talks : Talks says done start text before
  pub reply : List ℕ
  pub after : DebuggerState
  pub answered : says next before reply after
  pub count : ℕ
  pub within : count ≤ length reply
  pub written : Appends out.before out.after (text ++ take count reply)
  pub failed : HasFailed out
