-- The errors of the lines, as errors of the sessions.
use Rattle.std.proofs.Common.{◌≢◌, ℕ, List, inr, refl}
use Rattle.bsp_debug.specs.Debugger.{DebuggerState}
use Rattle.bsp_session.specs.declared.errors.SessionError.{SessionError}
use Rattle.bsp_session.specs.declared.errors.SessionError.TheVariants.{BadSettings, TooLong, Text, BadImage, SegmentOutside, ReadFault}
use Rattle.bsp_session.specs.declared.errors.SessionError.TheVariants.{TooManyNodes, WriteFault, NoWorker, NoMemory}
use Rattle.bsp_session.specs.declared.job.Job.{Job}
use Rattle.bsp_session.specs.Streams.{Stream}
use Rattle.bsp_console.specs.Talk.{Says, answered_lines, plain}
use Rattle.bsp_console.specs.Console.{Begins, Console, RefusesImage}
use Rattle.bsp_console.specs.Dialogue.{IsErrorOfTalk, IsErrorOfTalking}
use Rattle.bsp_console.specs.Script.{IsErrorOfReplies, IsErrorOfScript, ReadsScript}

pub error_of_talk : (says : Job → Says) (c : Console) (start : DebuggerState) → Begins c start → (e : SessionError)
    → IsErrorOfTalk (says c.job) c.script c.out start e → IsErrorOfTalking says c e
error_of_talk says c start b (BadSettings cause) p = absurd p
error_of_talk says c start b TooLong p = inr (record { start = start; begins = b; came = p })
error_of_talk says c start b (Text cause) p = absurd p
error_of_talk says c start b (BadImage cause) p = absurd p
error_of_talk says c start b SegmentOutside p = absurd p
error_of_talk says c start b TooManyNodes p = absurd p
error_of_talk says c start b ReadFault p = inr (record { start = start; begins = b; came = p })
error_of_talk says c start b WriteFault p = record { start = start; begins = b; came = p }
error_of_talk says c start b NoWorker p = absurd p
error_of_talk says c start b NoMemory p = inr (inr (record { start = start; begins = b; came = p }))

-- they are none of the image's file
pub talk-no_file : (says : Says) (script out : Stream) (start : DebuggerState) (e : SessionError) → IsErrorOfTalk says script out start e
    → RefusesImage e → ⊥
talk-no_file says script out start (BadSettings cause) p file = p
talk-no_file says script out start TooLong p file = file
talk-no_file says script out start (Text cause) p file = p
talk-no_file says script out start (BadImage cause) p file = p
talk-no_file says script out start SegmentOutside p file = p
talk-no_file says script out start TooManyNodes p file = p
talk-no_file says script out start ReadFault p file = file
talk-no_file says script out start WriteFault p file = file
talk-no_file says script out start NoWorker p file = p
talk-no_file says script out start NoMemory p file = file

pub error_of_lines : (c : Console) (start : DebuggerState) (s : List ℕ) → Begins c start → ReadsScript c s
    → (e : SessionError) → IsErrorOfReplies (plain c.job) (answered_lines s) start c.out e → IsErrorOfScript c e
error_of_lines c start s b r (BadSettings cause) p = absurd p
error_of_lines c start s b r TooLong p = absurd p
error_of_lines c start s b r (Text cause) p = absurd p
error_of_lines c start s b r (BadImage cause) p = absurd p
error_of_lines c start s b r SegmentOutside p = absurd p
error_of_lines c start s b r TooManyNodes p = absurd p
error_of_lines c start s b r ReadFault p = absurd p
error_of_lines c start s b r WriteFault p = record { start = start; begins = b; came = record { script = s; read = r; done = p } }
error_of_lines c start s b r NoWorker p = absurd p
error_of_lines c start s b r NoMemory p = inr (inr (inr (record {
  start = start;
  begins = b;
  came = record { script = s; read = r; done = p };
})))

-- they are of the writer or of memory
pub lines-written : (says : Says) (lines : List (List ℕ)) (start : DebuggerState) (out : Stream) (e : SessionError)
    → IsErrorOfReplies says lines start out e
    → e ≢ WriteFault → e ≢ NoMemory → ⊥
lines-written says lines start out (BadSettings cause) p write memory = p
lines-written says lines start out TooLong p write memory = p
lines-written says lines start out (Text cause) p write memory = p
lines-written says lines start out (BadImage cause) p write memory = p
lines-written says lines start out SegmentOutside p write memory = p
lines-written says lines start out TooManyNodes p write memory = p
lines-written says lines start out ReadFault p write memory = p
lines-written says lines start out WriteFault p write memory = write refl
lines-written says lines start out NoWorker p write memory = p
lines-written says lines start out NoMemory p write memory = memory refl
