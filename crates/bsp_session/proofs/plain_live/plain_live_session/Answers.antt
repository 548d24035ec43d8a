-- Where there is no machine nothing is written; and then what there is of its run.
use Rattle.std.proofs.Common.{Err, Ok, ap, inl, inr, refl}
use Rattle.std.proofs.KnownBytes.{Appends-trans}
use Rattle.std.proofs.lemmas.Result.{err_from_is_err_and}
use Rattle.machine_core.specs.Machine.{MachineState}
use Rattle.bsp_session.specs.Session.{session_of}
use Rattle.bsp_session.specs.Streams.{Stream, stream}
use Rattle.bsp_session.proofs.LiveErrors.{IsErrorOfLive-lines, IsErrorOfLive-of, IsErrorOfLive-run, IsErrorOfLiveRun-plain}
use Rattle.bsp_session.proofs.LiveErrors.{IsErrorOfPlainRun-worker, late, late_lines, lines-worker, settings_late}
use Rattle.bsp_session.proofs.SessionErrors.{ReportsFrom-end, settings_exact}
use Rattle.bsp_session.proofs.plain_live.plain_live_session.Goals as goal

pub returns-in_err-machine-clause-err : goal.returns-in_err-machine-clause-err
returns-in_err-machine-clause-err g c =
    let p = err_from_is_err_and c.from_residual.result c.from_residual.ensures.1 in
    let i = stream g.I.Read.remaining c.args.image.now c.start.new.image in
    let n = stream g.R.Read.remaining c.args.input.now c.start.new.input in
    let out = stream g.W.Write.contents c.args.out.now c.args.out.now in
    rw (p.1, p.2)
    (IsErrorOfLive-of (session_of i n out c.args.job.now) _
    (c.in_err-machine.ensures.err out (record { bytes = refl; failures = refl })))

pub returns-in_err-machine-clause-no_worker : goal.returns-in_err-machine-clause-no_worker
returns-in_err-machine-clause-no_worker g c =
    let p = err_from_is_err_and c.from_residual.result c.from_residual.ensures.1 in
    rw (p.1, p.2) c.in_err-machine.ensures.no_worker

pub returns-in_err-run_plain_live-clause-no_worker : goal.returns-in_err-run_plain_live-clause-no_worker
returns-in_err-run_plain_live-clause-no_worker g c =
    let p = err_from_is_err_and c.from_residual-in_err-run_plain_live.result c.from_residual-in_err-run_plain_live.ensures.1 in
    rw (p.1, p.2)
    (IsErrorOfPlainRun-worker c.in_ok-machine.machine (stream g.W.Write.contents c.args.out.now c.run_plain_live.new.out) _
    c.in_err-run_plain_live.ensures.err)

pub returns-in_err-write_lines-clause-no_worker : goal.returns-in_err-write_lines-clause-no_worker
returns-in_err-write_lines-clause-no_worker g c =
    let p = err_from_is_err_and c.from_residual-in_err-write_lines.result c.from_residual-in_err-write_lines.ensures.1 in
    rw (p.1, p.2)
    (lines-worker c.args.job.now c.run_plain_live.new.machine
    (stream g.W.Write.contents c.run_plain_live.new.out c.write_lines.new.out) _ c.in_err-write_lines.ensures.err)

pub returns-in_err-machine-clause-bad_settings : goal.returns-in_err-machine-clause-bad_settings
returns-in_err-machine-clause-bad_settings g c =
    let p = err_from_is_err_and c.from_residual.result c.from_residual.ensures.1 in
    let i = stream g.I.Read.remaining c.args.image.now c.start.new.image in
    let n = stream g.R.Read.remaining c.args.input.now c.start.new.input in
    let out = stream g.W.Write.contents c.args.out.now c.args.out.now in
    rw (p.1, p.2)
    (settings_exact (session_of i n out c.args.job.now) (Err _) tt
    (c.in_err-machine.ensures.err out (record { bytes = refl; failures = refl })))

pub returns-in_err-machine-clause-nothing_written : goal.returns-in_err-machine-clause-nothing_written
returns-in_err-machine-clause-nothing_written g c =
    let p = err_from_is_err_and c.from_residual.result c.from_residual.ensures.1 in
    rw p.1 (inl refl)

-- a machine at its start has written nothing
pub run_plain_live-requires : goal.run_plain_live-requires
run_plain_live-requires g c =
    let out = stream g.W.Write.contents c.args.out.now c.args.out.now in
    ap (λ (m : MachineState). m.output) (c.in_ok-machine.ensures.ok out).is

pub returns-in_err-run_plain_live-clause-err : goal.returns-in_err-run_plain_live-clause-err
returns-in_err-run_plain_live-clause-err g c =
    let p = err_from_is_err_and c.from_residual-in_err-run_plain_live.result c.from_residual-in_err-run_plain_live.ensures.1 in
    let i = stream g.I.Read.remaining c.args.image.now c.start.new.image in
    let n = stream g.R.Read.remaining c.args.input.now c.start.new.input in
    let out = stream g.W.Write.contents c.args.out.now c.run_plain_live.new.out in
    rw (p.1, p.2)
    (IsErrorOfLive-run (session_of i n out c.args.job.now) c.in_ok-machine.machine _ (c.in_ok-machine.ensures.ok out)
    (IsErrorOfLiveRun-plain c.args.job.now c.in_ok-machine.machine (stream g.W.Write.contents c.args.out.now c.run_plain_live.new.out) _ c.in_err-run_plain_live.ensures.err))

pub returns-in_err-run_plain_live-clause-bad_settings : goal.returns-in_err-run_plain_live-clause-bad_settings
returns-in_err-run_plain_live-clause-bad_settings g c =
    let p = err_from_is_err_and c.from_residual-in_err-run_plain_live.result c.from_residual-in_err-run_plain_live.ensures.1 in
    let out = stream g.W.Write.contents c.args.out.now c.run_plain_live.new.out in
    rw (p.1, p.2) (settings_late c.args.job.now (Err _) (c.in_ok-machine.ensures.ok out).read.settings
    (late c.args.job.now c.in_ok-machine.machine out _ (IsErrorOfLiveRun-plain c.args.job.now c.in_ok-machine.machine (stream g.W.Write.contents c.args.out.now c.run_plain_live.new.out) _ c.in_err-run_plain_live.ensures.err)))

pub returns-in_err-run_plain_live-clause-nothing_written : goal.returns-in_err-run_plain_live-clause-nothing_written
returns-in_err-run_plain_live-clause-nothing_written g c =
    let p = err_from_is_err_and c.from_residual-in_err-run_plain_live.result c.from_residual-in_err-run_plain_live.ensures.1 in
    rw (p.1, p.2)
    (inr (late c.args.job.now c.in_ok-machine.machine (stream g.W.Write.contents c.args.out.now c.run_plain_live.new.out) _
    (IsErrorOfLiveRun-plain c.args.job.now c.in_ok-machine.machine (stream g.W.Write.contents c.args.out.now c.run_plain_live.new.out) _ c.in_err-run_plain_live.ensures.err)))

pub returns-in_err-write_lines-clause-err : goal.returns-in_err-write_lines-clause-err
returns-in_err-write_lines-clause-err g c =
    let p = err_from_is_err_and c.from_residual-in_err-write_lines.result c.from_residual-in_err-write_lines.ensures.1 in
    let i = stream g.I.Read.remaining c.args.image.now c.start.new.image in
    let n = stream g.R.Read.remaining c.args.input.now c.start.new.input in
    let out = stream g.W.Write.contents c.args.out.now c.write_lines.new.out in
    let ran = c.in_ok-run_plain_live.ensures in
    rw (p.1, p.2) (IsErrorOfLive-lines (session_of i n out c.args.job.now) c.in_ok-machine.machine c.run_plain_live.new.machine
    (stream g.W.Write.contents c.run_plain_live.new.out c.write_lines.new.out) _ (c.in_ok-machine.ensures.ok out) ran.ended.end refl refl
    c.run_plain_live.ensures.never_falls ran.written
    c.in_err-write_lines.ensures.err)

pub returns-in_err-write_lines-clause-bad_settings : goal.returns-in_err-write_lines-clause-bad_settings
returns-in_err-write_lines-clause-bad_settings g c =
    let p = err_from_is_err_and c.from_residual-in_err-write_lines.result c.from_residual-in_err-write_lines.ensures.1 in
    let out = stream g.W.Write.contents c.run_plain_live.new.out c.write_lines.new.out in
    rw (p.1, p.2) (settings_late c.args.job.now (Err _) (c.in_ok-machine.ensures.ok out).read.settings
    (late_lines c.args.job.now c.run_plain_live.new.machine out _ c.in_err-write_lines.ensures.err))

pub returns-in_err-write_lines-clause-nothing_written : goal.returns-in_err-write_lines-clause-nothing_written
returns-in_err-write_lines-clause-nothing_written g c =
    let p = err_from_is_err_and c.from_residual-in_err-write_lines.result c.from_residual-in_err-write_lines.ensures.1 in
    rw (p.1, p.2)
    (inr (late_lines c.args.job.now c.run_plain_live.new.machine (stream g.W.Write.contents c.run_plain_live.new.out c.write_lines.new.out) _
    c.in_err-write_lines.ensures.err))

pub returns-clause-ok : goal.returns-clause-ok
returns-clause-ok g c =
    let ran = c.in_ok-run_plain_live.ensures in
    let out : Stream = stream g.W.Write.contents c.args.out.now c.write_lines.new.out in
    record {
      start = c.in_ok-machine.machine;
      reports =
          ReportsFrom-end
          (session_of (stream g.I.Read.remaining c.args.image.now c.start.new.image)
          (stream g.R.Read.remaining c.args.input.now c.start.new.input) out c.args.job.now)
          c.in_ok-machine.machine c.run_plain_live.new.machine (c.in_ok-machine.ensures.ok out) ran.ended.end
          (Appends-trans _ _ _ _ _ ran.written c.in_ok-write_lines.ensures.ok);
      outcome = rw ran.ended.end at c.outcome_of.ensures;
    }

pub returns-clause-bad_settings : goal.returns-clause-bad_settings
returns-clause-bad_settings g c =
    let out = stream g.W.Write.contents c.args.out.now c.args.out.now in
    settings_late c.args.job.now (Ok _) (c.in_ok-machine.ensures.ok out).read.settings tt
