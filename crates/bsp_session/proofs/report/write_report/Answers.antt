-- The output is written, and then the lines after it.
use Rattle.std.proofs.Common.{◌≡◌, ◌++◌, ◌∙◌, [], ap, refl, sym, subst, append-nil}
use Rattle.std.specs.Io.KnownBytes.{Appends}
use Rattle.std.proofs.KnownBytes.{Appends-nil, Appends-trans}
use Rattle.std.proofs.lemmas.Result.{err_from_is_err_and}
use Rattle.bsp_session.specs.Report.{report_lines, report_of}
use Rattle.bsp_session.proofs.Outputs.{AppendsPrefix-behind, HasRisen-above}
use Rattle.bsp_session.proofs.report.write_report.Goals as goal

pub returns-in_err-lines-clause-err : goal.returns-in_err-lines-clause-err
returns-in_err-lines-clause-err g c =
    let p = err_from_is_err_and c.from_residual.result c.from_residual.ensures.1 in
    rw (p.1, p.2) (record { bytes = refl; failures = refl })

pub returns-in_err-lines-clause-nothing_written : goal.returns-in_err-lines-clause-nothing_written
returns-in_err-lines-clause-nothing_written g c =
    let p = err_from_is_err_and c.from_residual.result c.from_residual.ensures.1 in
    rw p.1 (λ other. refl)

-- a prefix of the output
pub returns-in_err-write_whole-clause-err : goal.returns-in_err-write_whole-clause-err
returns-in_err-write_whole-clause-err g c =
    let p = err_from_is_err_and c.from_residual-in_err-write_whole.result c.from_residual-in_err-write_whole.ensures.1 in
    rw (p.1, p.2) (record {
      written =
          AppendsPrefix-behind [] c.output.result.now (report_lines c.args.job.now c.args.machine.now)
          (report_of c.args.job.now c.args.machine.now) _ _ _
          (rw c.output.ensures refl) (Appends-nil (g.W.Write.contents c.args.out.now.inner)) c.in_err-write_whole.ensures.err;
      failed = c.in_err-write_whole.ensures.fault;
    })

pub returns-in_err-write_whole-clause-nothing_written : goal.returns-in_err-write_whole-clause-nothing_written
returns-in_err-write_whole-clause-nothing_written g c =
    let p = err_from_is_err_and c.from_residual-in_err-write_whole.result c.from_residual-in_err-write_whole.ensures.1 in
    rw (p.1, p.2) (λ other. absurd (other refl))

-- a prefix of the lines, after the whole output
pub returns-in_err-write_whole-2-clause-err : goal.returns-in_err-write_whole-2-clause-err
returns-in_err-write_whole-2-clause-err g c =
    let p = err_from_is_err_and c.from_residual-in_err-write_whole-2.result c.from_residual-in_err-write_whole-2.ensures.1 in
    let whole : report_of c.args.job.now c.args.machine.now ≡ c.output.result.now ++ (c.as_bytes.result.now ++ []) =
    rw c.output.ensures
    (ap (λ ys. c.args.machine.now.output ++ ys)
    (sym (append-nil c.as_bytes.result.now ∙ c.as_bytes.ensures.value ∙ c.in_ok-lines.ensures.text))) in
    rw (p.1, p.2) (record {
      written = AppendsPrefix-behind c.output.result.now c.as_bytes.result.now [] (report_of c.args.job.now c.args.machine.now) _ _ _
          whole c.in_ok-write_whole.ensures.ok c.in_err-write_whole-2.ensures.err;
      failed = HasRisen-above _ _ _ c.write_whole.ensures.never_falls c.in_err-write_whole-2.ensures.fault;
    })

pub returns-in_err-write_whole-2-clause-nothing_written : goal.returns-in_err-write_whole-2-clause-nothing_written
returns-in_err-write_whole-2-clause-nothing_written g c =
    let p = err_from_is_err_and c.from_residual-in_err-write_whole-2.result c.from_residual-in_err-write_whole-2.ensures.1 in
    rw (p.1, p.2) (λ other. absurd (other refl))

pub returns-clause-ok : goal.returns-clause-ok
returns-clause-ok g c =
    let whole : c.output.result.now ++ c.as_bytes.result.now ≡ report_of c.args.job.now c.args.machine.now =
    rw c.output.ensures (ap (λ ys. c.args.machine.now.output ++ ys) (c.as_bytes.ensures.value ∙ c.in_ok-lines.ensures.text)) in
    subst (Appends (g.W.Write.contents c.args.out.now.inner) (g.W.Write.contents c.write_whole-2.new.to.inner)) whole
    (Appends-trans _ _ _ _ _ c.in_ok-write_whole.ensures.ok c.in_ok-write_whole-2.ensures.ok)
