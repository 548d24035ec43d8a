-- The lines begin with the debugger of the image and the input that were read.
use Rattle.std.proofs.Common.{subst}
use Rattle.std.proofs.lemmas.Result.{IfErr-weaker, on_ok_weaker}
use Rattle.bsp_session.specs.Streams.{stream}
use Rattle.bsp_console.specs.Talk.{answered_lines, plain}
use Rattle.bsp_console.specs.Console.{Begins, Console, IsDebuggerOf, WritesReplies, console_of}
use Rattle.bsp_console.specs.Script.{AnswersScript, IsErrorOfReplies, IsErrorOfScript, ReadsScript}
use Rattle.bsp_console.proofs.Errors.{error_of_lines, lines-written}
use Rattle.bsp_console.proofs.script.debug_session.Goals as goal

pub returns-clause-ok : goal.returns-clause-ok
returns-clause-ok g c =
    let session : Console = console_of (stream g.I.Read.remaining c.args.image.now c.read_files.new.image)
    (stream g.R.Read.remaining c.args.input.now c.read_files.new.input)
    (stream g.C.Read.remaining c.args.commands.now c.read_at_most.new.from)
    (stream g.W.Write.contents c.args.out.now c.answer_script.new.out) c.args.job.now in
    let debugger : IsDebuggerOf c.args.job.now c.in_ok-file.file.items c.in_ok-file.input.items c.in_ok-debugger.debugger =
    rw c.as_slice.ensures.value at c.in_ok-debugger.ensures.ok in
    let begins : Begins session c.in_ok-debugger.debugger = record {
      i = c.in_ok-file.file.items;
      n = c.in_ok-file.input.items;
      read = c.in_ok-file.ensures.ok;
      debugger = debugger;
    } in
    let read : ReadsScript session c.in_ok-script.script.items = c.in_ok-script.ensures.ok in
    on_ok_weaker c.answer_script.result
    (λ (replies : WritesReplies (plain c.args.job.now) (answered_lines c.as_slice-2.result.now) c.in_ok-debugger.debugger session.out).
    let all : AnswersScript session = record {
      start = c.in_ok-debugger.debugger;
      begins = begins;
      came = record {
        script = c.in_ok-script.script.items;
        read = read;
        done =
            subst (λ s. WritesReplies (plain c.args.job.now) (answered_lines s) c.in_ok-debugger.debugger session.out)
            c.as_slice-2.ensures.value replies;
      };
    } in all) c.answer_script.ensures.ok

pub returns-clause-err : goal.returns-clause-err
returns-clause-err g c =
    let session : Console = console_of (stream g.I.Read.remaining c.args.image.now c.read_files.new.image)
    (stream g.R.Read.remaining c.args.input.now c.read_files.new.input)
    (stream g.C.Read.remaining c.args.commands.now c.read_at_most.new.from)
    (stream g.W.Write.contents c.args.out.now c.answer_script.new.out) c.args.job.now in
    let debugger : IsDebuggerOf c.args.job.now c.in_ok-file.file.items c.in_ok-file.input.items c.in_ok-debugger.debugger =
    rw c.as_slice.ensures.value at c.in_ok-debugger.ensures.ok in
    let begins : Begins session c.in_ok-debugger.debugger = record {
      i = c.in_ok-file.file.items;
      n = c.in_ok-file.input.items;
      read = c.in_ok-file.ensures.ok;
      debugger = debugger;
    } in
    let read : ReadsScript session c.in_ok-script.script.items = c.in_ok-script.ensures.ok in
    IfErr-weaker c.answer_script.result
    (IsErrorOfReplies (plain c.args.job.now) (answered_lines c.as_slice-2.result.now) c.in_ok-debugger.debugger session.out)
    (IsErrorOfScript session)
    (λ e ended. error_of_lines session c.in_ok-debugger.debugger c.in_ok-script.script.items begins read e
    (subst (λ s. IsErrorOfReplies (plain c.args.job.now) (answered_lines s) c.in_ok-debugger.debugger session.out e)
    c.as_slice-2.ensures.value ended))
    c.answer_script.ensures.err

pub returns-clause-nothing_written : goal.returns-clause-nothing_written
returns-clause-nothing_written g c =
    let out = stream g.W.Write.contents c.args.out.now c.answer_script.new.out in
    IfErr-weaker c.answer_script.result
    (IsErrorOfReplies (plain c.args.job.now) (answered_lines c.as_slice-2.result.now) c.in_ok-debugger.debugger out) _
    (λ e ended write memory. absurd (lines-written _ _ c.in_ok-debugger.debugger out e ended write memory)) c.answer_script.ensures.err
