-- The sessions whose lines are read when they are wanted: the dialogue and the framed session. The order of work is an own rule:
-- settings, image read, input read, image understood, machine made, and then line by line.
use Rattle.std.specs.Prelude.{◌≡◌, ℕ, ◌≤◌, ◌⊎◌, List, [], ◌∷◌, length, Option}
use Rattle.std.specs.Io.KnownBytes.{Consumes, IsAtEnd}
use Rattle.bsp_debug.specs.Debugger.{DebuggerState}
use Rattle.bsp_session.specs.declared.errors.SessionError.{SessionError}
use Rattle.bsp_session.specs.declared.errors.SessionError.TheVariants.{BadSettings, TooLong, Text, BadImage, SegmentOutside, ReadFault}
use Rattle.bsp_session.specs.declared.errors.SessionError.TheVariants.{TooManyNodes, WriteFault, NoWorker, NoMemory}
use Rattle.bsp_session.specs.Streams.{Stream, IsUntouched, ReadsPast, HasFailed}
use Rattle.debug_lines.specs.declared.line.Line.{Line}
use Rattle.debug_lines.specs.Lines.{line_of, dialogue_line_of, framed_line_of}
use Rattle.bsp_session.specs.declared.job.Job.{Job}
use Rattle.bsp_console.specs.declared.manner.Manner.{Manner}
use Rattle.bsp_console.specs.declared.manner.Manner.TheVariants.{Script, Dialogue, Framed}
use Rattle.bsp_console.specs.Talk.{Answered, AnsweredFramed, HasQuit, LacksQuit, Says, AnswerFormat, answered_one_by_one, ended_lines}
use Rattle.bsp_console.specs.Talk.{framed}
use Rattle.bsp_console.specs.Talk.{given_lines, in_person, plainly, spoken, until_quit}
use Rattle.bsp_console.specs.Console.{Console, BeginsTo, CutsReply, StopsAtFiles, HasNoDebugger, StopsBefore, WritesReplies, most_script}

-- ---- an answer

-- the script was read to its end, or to a line `quit`, and the replies to its lines up to that were written
pub record HasTalked (says : Says) (script out : Stream) (start : DebuggerState) : Type 0 where
  pub bytes : List ℕ
  pub limited : length bytes ≤ most_script
  pub consumed : Consumes script.before script.after bytes
  pub whole : IsAtEnd script.after ⊎ HasQuit bytes
  pub written : WritesReplies says (answered_one_by_one bytes) start out

-- ---- errors

-- these are the whole lines of some first bytes of a script, behind which `rest` is left: those that a line feed ended; or where nothing
-- is left all lines, if the end was found, and so the last one too
abbrev pub AreWholeLines : (bytes : List ℕ) → (rest : Option (List ℕ)) → List (List ℕ) → Type 0
AreWholeLines bytes rest lines = (lines ≡ ended_lines bytes) ⊎ (IsAtEnd rest × (lines ≡ given_lines bytes))

-- of a script some first bytes were read, no more than the limit, and these are their whole lines
pub record ReadsLines (before rest : Option (List ℕ)) (lines : List (List ℕ)) : Type 0 where
  pub bytes : List ℕ
  pub limited : length bytes ≤ most_script
  pub consumed : Consumes before rest bytes
  pub whole : AreWholeLines bytes rest lines

-- a script is longer than the limit: one byte was read behind the first bytes, and is part of no line
pub record PassesScript (script : Stream) (lines : List (List ℕ)) : Type 0 where
  pub rest : Option (List ℕ)
  pub byte : ℕ
  pub read : ReadsLines script.before rest lines
  pub lost : Consumes rest script.after (byte ∷ [])
  pub past : ReadsPast most_script script

-- a script could not be read on
pub record IsUnreadable (script : Stream) (lines : List (List ℕ)) : Type 0 where
  pub read : ReadsLines script.before script.after lines
  pub failed : HasFailed script

-- the next line could not be read, for this cause: the replies to all whole lines were written, of which none is `quit`
pub record EndsAtLine (says : Says) (why : Stream → List (List ℕ) → Type 0) (script out : Stream) (start : DebuggerState) : Type 0 where
  pub lines : List (List ℕ)
  pub cause : why script lines
  pub no_quit : LacksQuit lines
  pub written : WritesReplies says lines start out

-- a line was read and not answered: this was done with the whole lines up to the first `quit`
pub record EndsAtReply (what : List (List ℕ) → DebuggerState → Type 0) (script : Stream) (start : DebuggerState) : Type 0 where
  pub lines : List (List ℕ)
  pub read : ReadsLines script.before script.after lines
  pub done : what (until_quit lines) start

-- memory was refused when the next line was read, or when a line was answered
abbrev pub StopsTalking : Says → (script out : Stream) → DebuggerState → Type 0
StopsTalking says script out start =
    EndsAtLine says (λ s lines. ReadsLines s.before s.after lines) script out start
    ⊎ EndsAtReply (λ lines d. StopsBefore says lines d out) script start

-- what is known where the lines ended by an error
abbrev pub IsErrorOfTalk : Says → (script out : Stream) → DebuggerState → SessionError → Type 0
IsErrorOfTalk says script out start TooLong = EndsAtLine says PassesScript script out start
IsErrorOfTalk says script out start ReadFault = EndsAtLine says IsUnreadable script out start
IsErrorOfTalk says script out start WriteFault = EndsAtReply (λ lines d. CutsReply says lines d out) script start
IsErrorOfTalk says script out start NoMemory = StopsTalking says script out start
IsErrorOfTalk says script out start _ = ⊥

-- ---- the whole session

-- an answer: every line was answered, up to the first that is `quit`
abbrev pub AnswersTalk : (Job → Says) → Console → Type 0
AnswersTalk says c = BeginsTo (HasTalked (says c.job) c.script c.out) c

-- the lines ended by this error
abbrev pub EndsTalking : (Job → Says) → Console → SessionError → Type 0
EndsTalking says c e = BeginsTo (λ start. IsErrorOfTalk (says c.job) c.script c.out start e) c

-- image and input were read, and there is no debugger; no line was read
abbrev pub IsRefusedAtOnce : Console → SessionError → Type 0
IsRefusedAtOnce c e = HasNoDebugger c e × IsUntouched c.script

-- what is known where the session ended by an error
abbrev pub IsErrorOfTalking : (Job → Says) → Console → SessionError → Type 0
IsErrorOfTalking says c (BadSettings cause) = StopsAtFiles c (BadSettings cause)
IsErrorOfTalking says c TooLong = StopsAtFiles c TooLong ⊎ EndsTalking says c TooLong
IsErrorOfTalking says c (Text cause) = IsRefusedAtOnce c (Text cause)
IsErrorOfTalking says c (BadImage cause) = IsRefusedAtOnce c (BadImage cause)
IsErrorOfTalking says c SegmentOutside = IsRefusedAtOnce c SegmentOutside
IsErrorOfTalking says c TooManyNodes = ⊥
IsErrorOfTalking says c ReadFault = StopsAtFiles c ReadFault ⊎ EndsTalking says c ReadFault
IsErrorOfTalking says c WriteFault = EndsTalking says c WriteFault
IsErrorOfTalking says c NoWorker = ⊥
IsErrorOfTalking says c NoMemory = StopsAtFiles c NoMemory ⊎ IsRefusedAtOnce c NoMemory ⊎ EndsTalking says c NoMemory

-- ---- a dialogue, whose replies stand by themselves

abbrev pub AnswersDialogue : Console → Type 0
AnswersDialogue c = AnswersTalk spoken c

abbrev pub IsErrorOfDialogue : Console → SessionError → Type 0
IsErrorOfDialogue c e = IsErrorOfTalking spoken c e

-- ---- a framed session, whose replies stand behind headers

abbrev pub AnswersFramed : Console → Type 0
AnswersFramed c = AnswersTalk framed c

abbrev pub IsErrorOfFramed : Console → SessionError → Type 0
IsErrorOfFramed c e = IsErrorOfTalking framed c e

-- ---- every session, for private contracts

-- what a line asks for
abbrev pub line_in : Manner → List ℕ → Line
line_in Script line = line_of line
line_in Dialogue line = dialogue_line_of line
line_in Framed line = framed_line_of line

-- how replies are told
abbrev pub tells_in : Manner → Job → AnswerFormat
tells_in Script job = plainly job
tells_in Dialogue job = in_person job
tells_in Framed job = plainly job

-- what it is answered
abbrev pub AnsweredIn : Manner → Job → Line → (old : DebuggerState) → (text : List ℕ) → (new : DebuggerState) → Type 0
AnsweredIn Script job line old text new = Answered (plainly job) job line old text new
AnsweredIn Dialogue job line old text new = Answered (in_person job) job line old text new
AnsweredIn Framed job line old text new = AnsweredFramed job line old text new

abbrev pub says_in : Manner → Job → Says
says_in manner job line old text new = AnsweredIn manner job (line_in manner line) old text new
