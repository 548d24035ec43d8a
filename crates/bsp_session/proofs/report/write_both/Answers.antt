-- The report is written, and then the text.
use Rattle.std.proofs.Common.{inr, refl}
use Rattle.std.proofs.lemmas.Result.{err_from_is_err_and}
use Rattle.bsp_session.specs.Streams.{stream}
use Rattle.bsp_session.proofs.Told.{unbegun}
use Rattle.bsp_session.proofs.report.write_both.Goals as goal

pub returns-in_err-write_report-clause-err : goal.returns-in_err-write_report-clause-err
returns-in_err-write_report-clause-err g c =
    let p = err_from_is_err_and c.from_residual.result c.from_residual.ensures.1 in
    rw (p.1, p.2)
    (unbegun c.args.job.now c.args.machine.now c.args.text.now (stream g.W.Write.contents c.args.out.now c.write_report.new.out)
    (stream g.T.Write.contents c.args.told.now c.args.told.now) _ c.in_err-write_report.ensures.err
    (record { bytes = refl; failures = refl }))

pub returns-in_err-write_report-clause-nothing_written : goal.returns-in_err-write_report-clause-nothing_written
returns-in_err-write_report-clause-nothing_written g c =
    let p = err_from_is_err_and c.from_residual.result c.from_residual.ensures.1 in
    rw (p.1, p.2) (λ other. (c.in_err-write_report.ensures.nothing_written other, refl))

pub returns-in_err-write_whole-clause-err : goal.returns-in_err-write_whole-clause-err
returns-in_err-write_whole-clause-err g c =
    let p = err_from_is_err_and c.from_residual-in_err-write_whole.result c.from_residual-in_err-write_whole.ensures.1 in
    rw (p.1, p.2) (inr (record {
      report = c.in_ok-write_report.ensures.ok;
      part = record { written = c.in_err-write_whole.ensures.err; failed = c.in_err-write_whole.ensures.fault };
    }))

pub returns-in_err-write_whole-clause-nothing_written : goal.returns-in_err-write_whole-clause-nothing_written
returns-in_err-write_whole-clause-nothing_written g c =
    let p = err_from_is_err_and c.from_residual-in_err-write_whole.result c.from_residual-in_err-write_whole.ensures.1 in
    rw (p.1, p.2) (λ other. absurd (other refl))

pub returns-clause-ok : goal.returns-clause-ok
returns-clause-ok g c = record {
  outcome = c.outcome_of.ensures;
  report = c.in_ok-write_report.ensures.ok;
  beside = c.in_ok-write_whole.ensures.ok;
}
