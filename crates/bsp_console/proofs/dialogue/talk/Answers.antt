-- The lines begin with the debugger of the image and the input that were read.
use Rattle.std.proofs.lemmas.Result.{IfErr-weaker, on_ok_weaker}
use Rattle.bsp_session.specs.Streams.{stream}
use Rattle.bsp_console.specs.Console.{Begins, Console, IsDebuggerOf, console_of}
use Rattle.bsp_console.specs.Dialogue.{AnswersTalk, HasTalked, IsErrorOfTalk, IsErrorOfTalking, says_in}
use Rattle.bsp_console.proofs.Errors.{error_of_talk, talk-no_file}
use Rattle.bsp_console.proofs.dialogue.talk.Goals as goal

pub returns-clause-ok : goal.returns-clause-ok
returns-clause-ok g c =
    let session : Console = console_of (stream g.I.Read.remaining c.args.image.now c.read_files.new.image)
    (stream g.R.Read.remaining c.args.input.now c.read_files.new.input)
    (stream g.C.Read.remaining c.args.commands.now c.answer_lines.new.commands)
    (stream g.W.Write.contents c.args.out.now c.answer_lines.new.out) c.args.job.now in
    let debugger : IsDebuggerOf c.args.job.now c.in_ok-file.file.items c.in_ok-file.input.items c.in_ok-debugger.debugger =
    rw c.as_slice.ensures.value at c.in_ok-debugger.ensures.ok in
    let begins : Begins session c.in_ok-debugger.debugger = record {
      i = c.in_ok-file.file.items;
      n = c.in_ok-file.input.items;
      read = c.in_ok-file.ensures.ok;
      debugger = debugger;
    } in
    on_ok_weaker c.answer_lines.result
    (λ (talked : HasTalked (says_in c.args.manner c.args.job.now) session.script session.out c.in_ok-debugger.debugger).
    let all : AnswersTalk (says_in c.args.manner) session = record { start = c.in_ok-debugger.debugger; begins = begins; came = talked } in
    all) c.answer_lines.ensures.ok

pub returns-clause-err : goal.returns-clause-err
returns-clause-err g c =
    let session : Console = console_of (stream g.I.Read.remaining c.args.image.now c.read_files.new.image)
    (stream g.R.Read.remaining c.args.input.now c.read_files.new.input)
    (stream g.C.Read.remaining c.args.commands.now c.answer_lines.new.commands)
    (stream g.W.Write.contents c.args.out.now c.answer_lines.new.out) c.args.job.now in
    let debugger : IsDebuggerOf c.args.job.now c.in_ok-file.file.items c.in_ok-file.input.items c.in_ok-debugger.debugger =
    rw c.as_slice.ensures.value at c.in_ok-debugger.ensures.ok in
    let begins : Begins session c.in_ok-debugger.debugger = record {
      i = c.in_ok-file.file.items;
      n = c.in_ok-file.input.items;
      read = c.in_ok-file.ensures.ok;
      debugger = debugger;
    } in
    IfErr-weaker c.answer_lines.result
    (IsErrorOfTalk (says_in c.args.manner c.args.job.now) session.script session.out c.in_ok-debugger.debugger)
    (IsErrorOfTalking (says_in c.args.manner) session)
    (error_of_talk (says_in c.args.manner) session c.in_ok-debugger.debugger begins) c.answer_lines.ensures.err

pub returns-clause-no_lines : goal.returns-clause-no_lines
returns-clause-no_lines g c =
    let script = stream g.C.Read.remaining c.args.commands.now c.answer_lines.new.commands in
    let out = stream g.W.Write.contents c.args.out.now c.answer_lines.new.out in
    IfErr-weaker c.answer_lines.result (IsErrorOfTalk (says_in c.args.manner c.args.job.now) script out c.in_ok-debugger.debugger) _
    (λ e talk file. absurd (talk-no_file _ script out c.in_ok-debugger.debugger e talk file)) c.answer_lines.ensures.err
