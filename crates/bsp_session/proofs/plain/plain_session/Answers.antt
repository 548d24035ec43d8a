-- A writer is touched by the last stage alone.
use Rattle.std.proofs.Common.{Err, Ok, refl}
use Rattle.std.proofs.lemmas.Result.{err_from_is_err_and}
use Rattle.bsp_session.specs.declared.errors.SessionError.TheVariants.{NoMemory}
use Rattle.bsp_session.specs.Session.{Session, session_of}
use Rattle.bsp_session.specs.Streams.{Stream, stream}
use Rattle.bsp_session.proofs.SessionErrors.{IsErrorOf-report, IsErrorOf-threads, IsErrorOfReport-worker, ReportsFrom-end, settings_exact}
use Rattle.bsp_session.proofs.plain.plain_session.Goals as goal

pub returns-in_err-machine-clause-err : goal.returns-in_err-machine-clause-err
returns-in_err-machine-clause-err g c =
    let p = err_from_is_err_and c.from_residual.result c.from_residual.ensures.1 in
    let out = stream g.W.Write.contents c.args.out.now c.args.out.now in
    rw (p.1, p.2) (c.in_err-machine.ensures.err out (record { bytes = refl; failures = refl }))

pub returns-in_err-machine-clause-no_worker : goal.returns-in_err-machine-clause-no_worker
returns-in_err-machine-clause-no_worker g c =
    let p = err_from_is_err_and c.from_residual.result c.from_residual.ensures.1 in
    rw (p.1, p.2) c.in_err-machine.ensures.no_worker

pub returns-in_err-machine-clause-bad_settings : goal.returns-in_err-machine-clause-bad_settings
returns-in_err-machine-clause-bad_settings g c =
    let p = err_from_is_err_and c.from_residual.result c.from_residual.ensures.1 in
    let i = stream g.I.Read.remaining c.args.image.now c.start.new.image in
    let n = stream g.R.Read.remaining c.args.input.now c.start.new.input in
    let out = stream g.W.Write.contents c.args.out.now c.args.out.now in
    rw (p.1, p.2)
    (settings_exact (session_of i n out c.args.job.now) (Err _) tt
    (c.in_err-machine.ensures.err out (record { bytes = refl; failures = refl })))

pub returns-in_err-run_plain-clause-err : goal.returns-in_err-run_plain-clause-err
returns-in_err-run_plain-clause-err g c =
    let p = err_from_is_err_and c.from_residual-in_err-run_plain.result c.from_residual-in_err-run_plain.ensures.1 in
    let i = stream g.I.Read.remaining c.args.image.now c.start.new.image in
    let n = stream g.R.Read.remaining c.args.input.now c.start.new.input in
    let out = stream g.W.Write.contents c.args.out.now c.args.out.now in
    rw (p.1, p.2)
    (IsErrorOf-threads (session_of i n out c.args.job.now) c.in_ok-machine.machine NoMemory (c.in_ok-machine.ensures.ok out)
    (record { bytes = refl; failures = refl }) tt)

pub returns-in_err-run_plain-clause-bad_settings : goal.returns-in_err-run_plain-clause-bad_settings
returns-in_err-run_plain-clause-bad_settings g c =
    let p = err_from_is_err_and c.from_residual-in_err-run_plain.result c.from_residual-in_err-run_plain.ensures.1 in
    let i = stream g.I.Read.remaining c.args.image.now c.start.new.image in
    let n = stream g.R.Read.remaining c.args.input.now c.start.new.input in
    let out = stream g.W.Write.contents c.args.out.now c.args.out.now in
    let s : Session = session_of i n out c.args.job.now in
    rw (p.1, p.2) (settings_exact s (Err _) tt
    (IsErrorOf-threads s c.in_ok-machine.machine NoMemory (c.in_ok-machine.ensures.ok out) (record { bytes = refl; failures = refl })
    tt))

pub returns-in_err-write_report-clause-err : goal.returns-in_err-write_report-clause-err
returns-in_err-write_report-clause-err g c =
    let p = err_from_is_err_and c.from_residual-in_err-write_report.result c.from_residual-in_err-write_report.ensures.1 in
    let i = stream g.I.Read.remaining c.args.image.now c.start.new.image in
    let n = stream g.R.Read.remaining c.args.input.now c.start.new.input in
    let out = stream g.W.Write.contents c.args.out.now c.write_report.new.out in
    rw (p.1, p.2)
    (IsErrorOf-report (session_of i n out c.args.job.now) c.in_ok-machine.machine c.run_plain.new.self _
    (c.in_ok-machine.ensures.ok out) c.in_ok-run_plain.ensures.ok.end c.in_err-write_report.ensures.err)

pub returns-in_err-write_report-clause-no_worker : goal.returns-in_err-write_report-clause-no_worker
returns-in_err-write_report-clause-no_worker g c =
    let p = err_from_is_err_and c.from_residual-in_err-write_report.result c.from_residual-in_err-write_report.ensures.1 in
    rw (p.1, p.2)
    (IsErrorOfReport-worker c.args.job.now c.run_plain.new.self (stream g.W.Write.contents c.args.out.now c.write_report.new.out) _
    c.in_err-write_report.ensures.err)

pub returns-in_err-write_report-clause-bad_settings : goal.returns-in_err-write_report-clause-bad_settings
returns-in_err-write_report-clause-bad_settings g c =
    let p = err_from_is_err_and c.from_residual-in_err-write_report.result c.from_residual-in_err-write_report.ensures.1 in
    let i = stream g.I.Read.remaining c.args.image.now c.start.new.image in
    let n = stream g.R.Read.remaining c.args.input.now c.start.new.input in
    let out = stream g.W.Write.contents c.args.out.now c.write_report.new.out in
    let s : Session = session_of i n out c.args.job.now in
    rw (p.1, p.2) (settings_exact s (Err _) tt
    (IsErrorOf-report s c.in_ok-machine.machine c.run_plain.new.self _ (c.in_ok-machine.ensures.ok out) c.in_ok-run_plain.ensures.ok.end
    c.in_err-write_report.ensures.err))

pub returns-in_err-write_report-clause-nothing_written : goal.returns-in_err-write_report-clause-nothing_written
returns-in_err-write_report-clause-nothing_written g c =
    let p = err_from_is_err_and c.from_residual-in_err-write_report.result c.from_residual-in_err-write_report.ensures.1 in
    rw (p.1, p.2) (λ other. c.in_err-write_report.ensures.nothing_written other)

pub returns-clause-ok : goal.returns-clause-ok
returns-clause-ok g c =
    let out : Stream = stream g.W.Write.contents c.args.out.now c.write_report.new.out in
    let is = c.in_ok-run_plain.ensures.ok.end in
    record {
      start = c.in_ok-machine.machine;
      reports =
          ReportsFrom-end
          (session_of (stream g.I.Read.remaining c.args.image.now c.start.new.image)
          (stream g.R.Read.remaining c.args.input.now c.start.new.input) out c.args.job.now)
          c.in_ok-machine.machine c.run_plain.new.self (c.in_ok-machine.ensures.ok out) is c.in_ok-write_report.ensures.ok;
      outcome = rw is at c.outcome_of.ensures;
    }

pub returns-clause-bad_settings : goal.returns-clause-bad_settings
returns-clause-bad_settings g c =
    let i = stream g.I.Read.remaining c.args.image.now c.start.new.image in
    let n = stream g.R.Read.remaining c.args.input.now c.start.new.input in
    let out = stream g.W.Write.contents c.args.out.now c.write_report.new.out in
    settings_exact (session_of i n out c.args.job.now) (Ok _) (c.in_ok-machine.ensures.ok out).read.settings tt
