-- Each line is answered by the debugger that the lines before it left.
use Rattle.std.proofs.Common.{◌≡◌, ◌≤◌, ◌<◌, ◌∙◌, Ok, Err, true, false, length, ap, sym, subst, arith}
use Rattle.std.proofs.lemmas.Result.{err_from_is_err_and}
use Rattle.debug_lines.specs.declared.line.Line.TheVariants.{Quit}
use Rattle.debug_lines.specs.Lines.{line_of}
use Rattle.bsp_session.specs.Streams.{stream}
use Rattle.bsp_console.specs.Console.{most_script}
use Rattle.bsp_console.specs.Dialogue.{AnsweredIn, line_in, says_in}
use Rattle.bsp_console.proofs.Manners.{quit_in-any, quit_in-plain}
use Rattle.bsp_console.proofs.Scripts.{is_quit-true, is_quit-false, with_left}
use Rattle.bsp_console.proofs.Talking.{given-more, is_talking-first, talked-end, talked-quit, talking-step, talk-error, talk-stops}
use Rattle.bsp_console.proofs.dialogue.answer_lines.Goals as goal

pub loop-lines-init : goal.loop-lines-init
loop-lines-init g c = record {
  talking =
      rw c.new-lines.ensures
      (is_talking-first (says_in c.args.manner c.args.job.now) c.args.debugger.now (g.C.Read.remaining c.args.commands.now.inner)
      (g.W.Write.contents c.args.out.now.inner));
  commands = omega arith;
  out = omega arith;
}

pub returns-in_err-next_line-clause-err : goal.returns-in_err-next_line-clause-err
returns-in_err-next_line-clause-err g c =
    let exit = err_from_is_err_and c.from_residual.result c.from_residual.ensures.1 in
    let t = c.loop-lines.invariant.talking in
    let said = c.in_err-next_line.ensures in
    let few : length c.next_line.new.self.read ≤ most_script =
    subst (λ m. length c.next_line.new.self.read ≤ m) (c.next_line.ensures.most ∙ t.most) c.next_line.ensures.limit in
    rw (exit.1, exit.2)
    (talk-error _ _ c.loop-lines.debugger (stream g.C.Read.remaining c.args.commands.now c.next_line.new.from)
    (stream g.W.Write.contents c.args.out.now c.loop-lines.out)
    (g.C.Read.remaining c.loop-lines.commands.inner) c.loop-lines.lines c.next_line.new.self c.loop-lines.commands.failures
    c.in_err-next_line.field-0.0
    t (λ e. let still = c.next_line.ensures.over e in (still.2, ap (λ r. g.C.Read.remaining r.inner) still.1)) few said.err.0 said.err.2
    c.loop-lines.invariant.commands
    (λ e. said.too_long (ap Err e)) (λ e. said.fault (ap Err e)) (λ e. said.no_memory (ap Err e)))

pub returns-clause-ok : goal.returns-clause-ok
returns-clause-ok g c =
    let t = c.loop-lines.invariant.talking in
    let few : length c.next_line.new.self.read ≤ most_script =
    subst (λ m. length c.next_line.new.self.read ≤ m) (c.next_line.ensures.most ∙ t.most) c.next_line.ensures.limit in
    let none : c.next_line.result ≡ Ok false = c.in_ok-next_line.was {u = tt} ∙ ap Ok c.if-branch.false in
    let said = c.next_line.ensures.end none in
    talked-end _ _ c.loop-lines.debugger (stream g.C.Read.remaining c.args.commands.now c.next_line.new.from)
    (stream g.W.Write.contents c.args.out.now c.loop-lines.out)
    (g.C.Read.remaining c.loop-lines.commands.inner) c.loop-lines.lines c.next_line.new.self t c.in_ok-next_line.ensures.bytes said.0 said.1
    (λ e. let still = c.next_line.ensures.over e in (still.2, ap (λ r. g.C.Read.remaining r.inner) still.1)) few

pub returns-then-is_quit-clause-ok : goal.returns-then-is_quit-clause-ok
returns-then-is_quit-clause-ok g c =
    let t = c.loop-lines.invariant.talking in
    let few : length c.next_line.new.self.read ≤ most_script =
    subst (λ m. length c.next_line.new.self.read ≤ m) (c.next_line.ensures.most ∙ t.most) c.next_line.ensures.limit in
    let some : c.next_line.result ≡ Ok true = c.in_ok-next_line.was {u = tt} ∙ ap Ok c.if-branch.true in
    let line : c.parse_in-line.result ≡ line_in c.args.manner c.next_line.new.self.line =
    c.parse_in-line.ensures ∙ ap (line_in c.args.manner) c.line.ensures in
    let quits =
    quit_in-plain c.args.manner c.next_line.new.self.line (sym line ∙ is_quit-true _ (sym c.is_quit.ensures ∙ c.if-is_quit.true)) in
    talked-quit _ _ c.loop-lines.debugger (stream g.C.Read.remaining c.args.commands.now c.next_line.new.from)
    (stream g.W.Write.contents c.args.out.now c.loop-lines.out)
    (g.C.Read.remaining c.loop-lines.commands.inner) c.loop-lines.lines c.next_line.new.self t c.in_ok-next_line.ensures.bytes
    (c.next_line.ensures.line some)
    (λ e. let still = c.next_line.ensures.over e in (still.2, ap (λ r. g.C.Read.remaining r.inner) still.1)) few quits

pub returns-in_err-answer_at_once-clause-err : goal.returns-in_err-answer_at_once-clause-err
returns-in_err-answer_at_once-clause-err g c =
    let exit = err_from_is_err_and c.from_residual-in_err-answer_at_once.result c.from_residual-in_err-answer_at_once.ensures.1 in
    let t = c.loop-lines.invariant.talking in
    let few : length c.next_line.new.self.read ≤ most_script =
    subst (λ m. length c.next_line.new.self.read ≤ m) (c.next_line.ensures.most ∙ t.most) c.next_line.ensures.limit in
    let some : c.next_line.result ≡ Ok true = c.in_ok-next_line.was {u = tt} ∙ ap Ok c.if-branch.true in
    let line : c.parse_in-line.result ≡ line_in c.args.manner c.next_line.new.self.line =
    c.parse_in-line.ensures ∙ ap (line_in c.args.manner) c.line.ensures in
    let other : line_of c.next_line.new.self.line ≡ Quit
    → ⊥ = λ quits. is_quit-false _ (sym c.is_quit.ensures ∙ c.if-is_quit.false)
    (line ∙ quit_in-any c.args.manner c.next_line.new.self.line quits) in
    rw (exit.1, exit.2)
    (talk-stops (says_in c.args.manner c.args.job.now) _ c.loop-lines.debugger c.answer_at_once.new.debugger
    (stream g.C.Read.remaining c.args.commands.now c.next_line.new.from)
    (stream g.W.Write.contents c.args.out.now c.answer_at_once.new.out)
    (g.C.Read.remaining c.loop-lines.commands.inner) (g.W.Write.contents c.loop-lines.out.inner) c.loop-lines.lines c.next_line.new.self
    c.loop-lines.out.failures c.in_err-answer_at_once.field-0.0
    (λ reply. AnsweredIn c.args.manner c.args.job.now c.parse_in-line.result c.loop-lines.debugger reply c.answer_at_once.new.debugger)
    (λ reply. subst (λ asked. AnsweredIn c.args.manner c.args.job.now asked c.loop-lines.debugger reply c.answer_at_once.new.debugger) line)
    t c.in_ok-next_line.ensures.bytes (c.next_line.ensures.line some)
    (λ e. let still = c.next_line.ensures.over e in (still.2, ap (λ r. g.C.Read.remaining r.inner) still.1)) few other
    c.loop-lines.invariant.out
    (with_left c.in_err-answer_at_once.ensures.err (λ refused. (refused.0, ap (λ o. g.W.Write.contents o.inner) refused.1))))

pub loop-lines-smaller : goal.loop-lines-smaller
loop-lines-smaller g c =
    let t = c.loop-lines.invariant.talking in
    let some : c.next_line.result ≡ Ok true = c.in_ok-next_line.was {u = tt} ∙ ap Ok c.if-branch.true in
    let more : c.loop-lines.lines.given < c.next_line.new.self.given =
    given-more _ _ _ t.within (λ e. (c.next_line.ensures.over e).2) (c.next_line.ensures.line some) in
    let most = c.next_line.ensures.most in
    let limit = c.next_line.ensures.limit in
    let within = c.next_line.ensures.within in
    omega arith

pub loop-lines-preserved : goal.loop-lines-preserved
loop-lines-preserved g c =
    let t = c.loop-lines.invariant.talking in
    let some : c.next_line.result ≡ Ok true = c.in_ok-next_line.was {u = tt} ∙ ap Ok c.if-branch.true in
    let line : c.parse_in-line.result ≡ line_in c.args.manner c.next_line.new.self.line =
    c.parse_in-line.ensures ∙ ap (line_in c.args.manner) c.line.ensures in
    let other : line_of c.next_line.new.self.line ≡ Quit
    → ⊥ = λ quits. is_quit-false _ (sym c.is_quit.ensures ∙ c.if-is_quit.false)
    (line ∙ quit_in-any c.args.manner c.next_line.new.self.line quits) in
    let (text, answered, written) = c.in_ok-answer_at_once.ensures.ok in
    record {
      talking =
          talking-step (says_in c.args.manner c.args.job.now) _ c.loop-lines.debugger c.answer_at_once.new.debugger _
          (g.C.Read.remaining c.loop-lines.commands.inner) (g.C.Read.remaining c.next_line.new.from.inner)
          _ (g.W.Write.contents c.loop-lines.out.inner) _ c.loop-lines.lines c.next_line.new.self text
          t c.in_ok-next_line.ensures.bytes (c.next_line.ensures.line some)
          (λ e. let still = c.next_line.ensures.over e in (still.2, ap (λ r. g.C.Read.remaining r.inner) still.1)) c.next_line.ensures.ends
          c.next_line.ensures.most c.next_line.ensures.limit c.next_line.ensures.within other
          (subst (λ asked. AnsweredIn c.args.manner c.args.job.now asked c.loop-lines.debugger text c.answer_at_once.new.debugger) line
          answered) written;
      commands = omega arith;
      out = omega arith;
    }
