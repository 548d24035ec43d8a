-- Each line is answered by the debugger that the lines before it left.
use Rattle.std.proofs.Common.{◌≡◌, ◌∙◌, [], ap, sym, subst, arith}
use Rattle.std.specs.Option.{option_map_or}
use Rattle.std.proofs.lemmas.Result.{err_from_is_err_and}
use Rattle.debug_lines.specs.declared.line.Line.TheVariants.{Quit}
use Rattle.debug_lines.specs.Lines.{line_of}
use Rattle.bsp_session.specs.Streams.{stream}
use Rattle.bsp_console.specs.Talk.{Answered, lines_of, plain, plainly}
use Rattle.bsp_console.proofs.Answering.{answering-step, answering-stops}
use Rattle.bsp_console.proofs.Scripts.{is_quit-false, with_left}
use Rattle.bsp_console.proofs.script.answer_script.Goals as goal

pub returns-in_err-answer_to-clause-err : goal.returns-in_err-answer_to-clause-err
returns-in_err-answer_to-clause-err g c =
    let exit = err_from_is_err_and c.from_residual.result c.from_residual.ensures.1 in
    let left = ap (λ r. option_map_or (λ t. lines_of t.now) r []) c.in-Some.is ∙ c.split_line.ensures.lines in
    let other : line_of c.split_line.result.0.now ≡ Quit → ⊥ =
    λ quits. is_quit-false _ (sym c.is_quit.ensures ∙ c.if-is_quit.false) (c.parse_line-line.ensures ∙ quits) in
    rw (exit.1, exit.2) (answering-stops (plain c.args.job.now) _ _ _ c.split_line.result.0.now _ c.lines.debugger c.answer_to.new.debugger
    (stream g.W.Write.contents c.args.out.now c.answer_to.new.out) (g.W.Write.contents c.lines.out.inner) c.lines.out.failures
    c.in_err-answer_to.field-0.0
    (λ reply. Answered (plainly c.args.job.now) c.args.job.now c.parse_line-line.result c.lines.debugger reply c.answer_to.new.debugger)
    (λ reply. subst (λ asked. Answered (plainly c.args.job.now) c.args.job.now asked c.lines.debugger reply c.answer_to.new.debugger)
    c.parse_line-line.ensures)
    c.lines.invariant.answering left other c.lines.invariant.out
    (with_left c.in_err-answer_to.ensures.err (λ refused. (refused.0, ap (λ o. g.W.Write.contents o.inner) refused.1))))

pub lines-preserved : goal.lines-preserved
lines-preserved g c =
    let left = ap (λ r. option_map_or (λ t. lines_of t.now) r []) c.in-Some.is ∙ c.split_line.ensures.lines in
    let other : line_of c.split_line.result.0.now ≡ Quit → ⊥ =
    λ quits. is_quit-false _ (sym c.is_quit.ensures ∙ c.if-is_quit.false) (c.parse_line-line.ensures ∙ quits) in
    let (text, answered, written) = c.in_ok-answer_to.ensures.ok in
    record {
      answering =
          answering-step (plain c.args.job.now) _ _ _ c.split_line.result.0.now _ c.lines.debugger c.answer_to.new.debugger _
          (g.W.Write.contents c.lines.out.inner) _ text
          c.lines.invariant.answering left other
          (subst (λ asked. Answered (plainly c.args.job.now) c.args.job.now asked c.lines.debugger text c.answer_to.new.debugger)
          c.parse_line-line.ensures answered) written;
      out = omega arith;
    }
