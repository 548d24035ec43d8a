-- The session whose script is read whole before anything is made of it. The order of work is an own rule: settings, image read, input
-- read, script read, image understood, machine made, and then the lines, one after another.
use Rattle.std.specs.Prelude.{ℕ, ◌<◌, ◌⊎◌, List, length}
use Rattle.bsp_debug.specs.Debugger.{DebuggerState}
use Rattle.counted_io.specs.declared.ReadError.{ReadError}
use Rattle.counted_io.specs.declared.ReadError.TheVariants as read
use Rattle.bsp_session.specs.declared.errors.SessionError.{SessionError}
use Rattle.bsp_session.specs.declared.errors.SessionError.TheVariants.{BadSettings, TooLong, Text, BadImage, SegmentOutside, ReadFault}
use Rattle.bsp_session.specs.declared.errors.SessionError.TheVariants.{TooManyNodes, WriteFault, NoWorker, NoMemory}
use Rattle.bsp_session.specs.Session.{ReadsFiles}
use Rattle.bsp_session.specs.Streams.{Stream, IsReadErrorOf, IsUntouched, ReadsWhole}
use Rattle.bsp_console.specs.Talk.{Says, answered_lines, plain}
use Rattle.bsp_console.specs.Console.{Console, BeginsTo, CutsReply, StopsAtFiles, HasNoDebugger}
use Rattle.bsp_console.specs.Console.{StopsBefore, WritesReplies, console_fault, most_script}

-- the script was read
abbrev pub ReadsScript : Console → List ℕ → Type 0
ReadsScript c s = ReadsWhole c.script s most_script

-- image and input were read, and the script was not read whole, for this; nothing was written
pub record EndsAtScript (c : Console) (why : ReadError) : Type 0 where
  pub i : List ℕ
  pub n : List ℕ
  pub read : ReadsFiles console_fault c.job c.image c.input i n
  pub ended : IsReadErrorOf most_script c.script why
  pub unwritten : IsUntouched c.out

-- the three were read, and there is no debugger
abbrev pub IsRefusedAfterReading : Console → SessionError → Type 0
IsRefusedAfterReading c e = HasNoDebugger c e × ((s : List ℕ) × ReadsScript c s)

-- the script was read, and this was done with its lines that are answered
pub record TakesScript (what : List (List ℕ) → DebuggerState → Type 0) (c : Console) (start : DebuggerState) : Type 0 where
  pub script : List ℕ
  pub read : ReadsScript c script
  pub done : what (answered_lines script) start

-- an answer: the replies to all lines up to the first `quit`, or to the last line, were written
abbrev pub AnswersScript : Console → Type 0
AnswersScript c = BeginsTo (TakesScript (λ lines start. WritesReplies (plain c.job) lines start c.out) c) c

-- the writer failed at a reply, of which not all was written
abbrev pub CutsShort : Says → List (List ℕ) → DebuggerState → (out : Stream) → Type 0
CutsShort says lines start out = (cut : CutsReply says lines start out) × (cut.count < length cut.reply)

-- what is known where the lines ended by an error
abbrev pub IsErrorOfReplies : Says → List (List ℕ) → DebuggerState → (out : Stream) → SessionError → Type 0
IsErrorOfReplies says lines start out WriteFault = CutsShort says lines start out
IsErrorOfReplies says lines start out NoMemory = StopsBefore says lines start out
IsErrorOfReplies says lines start out _ = ⊥

-- the lines ended by this error
abbrev pub EndsAnswering : Console → SessionError → Type 0
EndsAnswering c e = BeginsTo (TakesScript (λ lines start. IsErrorOfReplies (plain c.job) lines start c.out e) c) c

-- what is known where the session ended by an error
abbrev pub IsErrorOfScript : Console → SessionError → Type 0
IsErrorOfScript c (BadSettings cause) = StopsAtFiles c (BadSettings cause)
IsErrorOfScript c TooLong = StopsAtFiles c TooLong ⊎ EndsAtScript c read.TooLong
IsErrorOfScript c (Text cause) = IsRefusedAfterReading c (Text cause)
IsErrorOfScript c (BadImage cause) = IsRefusedAfterReading c (BadImage cause)
IsErrorOfScript c SegmentOutside = IsRefusedAfterReading c SegmentOutside
IsErrorOfScript c TooManyNodes = ⊥
IsErrorOfScript c ReadFault = StopsAtFiles c ReadFault ⊎ EndsAtScript c read.ReadFault
IsErrorOfScript c WriteFault = EndsAnswering c WriteFault
IsErrorOfScript c NoWorker = ⊥
IsErrorOfScript c NoMemory =
    StopsAtFiles c NoMemory ⊎ EndsAtScript c read.NoMemory ⊎ IsRefusedAfterReading c NoMemory ⊎ EndsAnswering c NoMemory
