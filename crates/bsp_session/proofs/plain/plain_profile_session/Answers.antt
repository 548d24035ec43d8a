-- Neither writer is touched but by the last stage.
use Rattle.std.proofs.Common.{◌≢◌, ◌∙◌, ◌++◌, ℕ, List, Err, ap, refl}
use Rattle.std.proofs.lemmas.Result.{IfErr-weaker, IfOk-weaker, err_from_is_err_and}
use Rattle.bsp_profile.specs.Lines.{lines_of}
use Rattle.bsp_session.specs.declared.errors.SessionError.TheVariants.{NoMemory, NoWorker}
use Rattle.bsp_session.specs.Profiles.{IsErrorOfProfiled, IsProfile}
use Rattle.bsp_session.specs.Session.{Session, session_of}
use Rattle.bsp_session.specs.Streams.{Stream, stream}
use Rattle.bsp_session.specs.Told.{IsErrorOfBoth, IsErrorOfTold, ReportsAndTells, WritesBoth}
use Rattle.bsp_session.proofs.Profiled.{profiled, too_many_exact}
use Rattle.bsp_session.proofs.SessionErrors.{IsErrorOf-threads}
use Rattle.bsp_session.proofs.Told.{IsErrorOfBoth-worker, IsErrorOfTold-both, ReportsAndTells-both, untold}
use Rattle.bsp_session.proofs.plain.plain_profile_session.Goals as goal

pub returns-then-has_too_many_nodes-clause-err : goal.returns-then-has_too_many_nodes-clause-err
returns-then-has_too_many_nodes-clause-err g c = record {
  nodes = c.has_too_many_nodes.ensures.0 c.if-has_too_many_nodes.true;
  image = record { bytes = refl; failures = refl };
  input = record { bytes = refl; failures = refl };
  out = record { bytes = refl; failures = refl };
  unwritten = record { bytes = refl; failures = refl };
}

pub returns-in_err-machine-clause-err : goal.returns-in_err-machine-clause-err
returns-in_err-machine-clause-err g c =
    let p = err_from_is_err_and c.from_residual.result c.from_residual.ensures.1 in
    let i = stream g.I.Read.remaining c.args.image.now c.start.new.image in
    let n = stream g.R.Read.remaining c.args.input.now c.start.new.input in
    let out = stream g.W.Write.contents c.args.out.now c.args.out.now in
    let told = stream g.P.Write.contents c.args.profile.now c.args.profile.now in
    let s : Session = session_of i n out c.args.job.now in
    rw (p.1, p.2)
    (profiled s told _ (untold IsProfile s told _
    (c.in_err-machine.ensures.err out (record { bytes = refl; failures = refl })) (record { bytes = refl; failures = refl })))

pub returns-in_err-machine-clause-too_many_nodes : goal.returns-in_err-machine-clause-too_many_nodes
returns-in_err-machine-clause-too_many_nodes g c =
    let p = err_from_is_err_and c.from_residual.result c.from_residual.ensures.1 in
    let i = stream g.I.Read.remaining c.args.image.now c.start.new.image in
    let n = stream g.R.Read.remaining c.args.input.now c.start.new.input in
    let out = stream g.W.Write.contents c.args.out.now c.args.out.now in
    let told = stream g.P.Write.contents c.args.profile.now c.args.profile.now in
    let s : Session = session_of i n out c.args.job.now in
    rw (p.1, p.2)
    (too_many_exact s told (Err _) (λ many. let yes = c.has_too_many_nodes.ensures.1 many in cc) (untold IsProfile s told _
    (c.in_err-machine.ensures.err out (record { bytes = refl; failures = refl })) (record { bytes = refl; failures = refl })))

pub returns-in_err-machine-clause-no_worker : goal.returns-in_err-machine-clause-no_worker
returns-in_err-machine-clause-no_worker g c =
    let p = err_from_is_err_and c.from_residual.result c.from_residual.ensures.1 in
    rw (p.1, p.2) c.in_err-machine.ensures.no_worker

pub returns-in_err-machine-clause-nothing_written : goal.returns-in_err-machine-clause-nothing_written
returns-in_err-machine-clause-nothing_written g c =
    let p = err_from_is_err_and c.from_residual.result c.from_residual.ensures.1 in
    rw p.1 (λ other. (refl, refl))

pub returns-in_err-told-clause-err : goal.returns-in_err-told-clause-err
returns-in_err-told-clause-err g c =
    let p = err_from_is_err_and c.from_residual-in_err-told.result c.from_residual-in_err-told.ensures.1 in
    let i = stream g.I.Read.remaining c.args.image.now c.start.new.image in
    let n = stream g.R.Read.remaining c.args.input.now c.start.new.input in
    let out = stream g.W.Write.contents c.args.out.now c.args.out.now in
    let told = stream g.P.Write.contents c.args.profile.now c.args.profile.now in
    let s : Session = session_of i n out c.args.job.now in
    rw (p.1, p.2) (untold IsProfile s told NoMemory
    (IsErrorOf-threads s c.in_ok-machine.machine NoMemory (c.in_ok-machine.ensures.ok out) (record { bytes = refl; failures = refl }) tt)
    (record { bytes = refl; failures = refl }))

pub returns-in_err-told-clause-too_many_nodes : goal.returns-in_err-told-clause-too_many_nodes
returns-in_err-told-clause-too_many_nodes g c =
    let p = err_from_is_err_and c.from_residual-in_err-told.result c.from_residual-in_err-told.ensures.1 in
    let i = stream g.I.Read.remaining c.args.image.now c.start.new.image in
    let n = stream g.R.Read.remaining c.args.input.now c.start.new.input in
    let out = stream g.W.Write.contents c.args.out.now c.args.out.now in
    let told = stream g.P.Write.contents c.args.profile.now c.args.profile.now in
    let s : Session = session_of i n out c.args.job.now in
    rw (p.1, p.2) (too_many_exact s told (Err _) (λ many. let yes = c.has_too_many_nodes.ensures.1 many in cc)
    (untold IsProfile s told NoMemory
    (IsErrorOf-threads s c.in_ok-machine.machine NoMemory (c.in_ok-machine.ensures.ok out) (record { bytes = refl; failures = refl }) tt)
    (record { bytes = refl; failures = refl })))

pub returns-in_err-told-clause-nothing_written : goal.returns-in_err-told-clause-nothing_written
returns-in_err-told-clause-nothing_written g c =
    let p = err_from_is_err_and c.from_residual-in_err-told.result c.from_residual-in_err-told.ensures.1 in
    rw p.1 (λ other. (refl, refl))

pub returns-in_err-run_plain-clause-err : goal.returns-in_err-run_plain-clause-err
returns-in_err-run_plain-clause-err g c =
    let p = err_from_is_err_and c.from_residual-in_err-run_plain.result c.from_residual-in_err-run_plain.ensures.1 in
    let i = stream g.I.Read.remaining c.args.image.now c.start.new.image in
    let n = stream g.R.Read.remaining c.args.input.now c.start.new.input in
    let out = stream g.W.Write.contents c.args.out.now c.args.out.now in
    let told = stream g.P.Write.contents c.args.profile.now c.args.profile.now in
    let s : Session = session_of i n out c.args.job.now in
    rw (p.1, p.2) (untold IsProfile s told NoMemory
    (IsErrorOf-threads s c.in_ok-machine.machine NoMemory (c.in_ok-machine.ensures.ok out) (record { bytes = refl; failures = refl }) tt)
    (record { bytes = refl; failures = refl }))

pub returns-in_err-run_plain-clause-too_many_nodes : goal.returns-in_err-run_plain-clause-too_many_nodes
returns-in_err-run_plain-clause-too_many_nodes g c =
    let p = err_from_is_err_and c.from_residual-in_err-run_plain.result c.from_residual-in_err-run_plain.ensures.1 in
    let i = stream g.I.Read.remaining c.args.image.now c.start.new.image in
    let n = stream g.R.Read.remaining c.args.input.now c.start.new.input in
    let out = stream g.W.Write.contents c.args.out.now c.args.out.now in
    let told = stream g.P.Write.contents c.args.profile.now c.args.profile.now in
    let s : Session = session_of i n out c.args.job.now in
    rw (p.1, p.2) (too_many_exact s told (Err _) (λ many. let yes = c.has_too_many_nodes.ensures.1 many in cc)
    (untold IsProfile s told NoMemory
    (IsErrorOf-threads s c.in_ok-machine.machine NoMemory (c.in_ok-machine.ensures.ok out) (record { bytes = refl; failures = refl }) tt)
    (record { bytes = refl; failures = refl })))

pub returns-in_err-run_plain-clause-nothing_written : goal.returns-in_err-run_plain-clause-nothing_written
returns-in_err-run_plain-clause-nothing_written g c =
    let p = err_from_is_err_and c.from_residual-in_err-run_plain.result c.from_residual-in_err-run_plain.ensures.1 in
    rw p.1 (λ other. (refl, refl))

pub returns-clause-ok : goal.returns-clause-ok
returns-clause-ok g c =
    let i = stream g.I.Read.remaining c.args.image.now c.start.new.image in
    let n = stream g.R.Read.remaining c.args.input.now c.start.new.input in
    let out : Stream = stream g.W.Write.contents c.args.out.now c.write_both.new.out in
    let told : Stream = stream g.P.Write.contents c.args.profile.now c.write_both.new.told in
    let s : Session = session_of i n out c.args.job.now in
    IfOk-weaker c.write_both.result (WritesBoth s.job c.run_plain.new.machine c.as_bytes.result.now out told) (ReportsAndTells IsProfile s told)
    (ReportsAndTells-both IsProfile s told c.in_ok-machine.machine c.run_plain.new.machine c.as_bytes.result.now (c.in_ok-machine.ensures.ok out)
    c.in_ok-run_plain.ensures.ok.end
    (c.as_bytes.ensures ∙ c.in_ok-run_plain.ensures.profile ∙ ap (λ (bs : List ℕ). bs ++ lines_of c.in_ok-machine.machine) c.in_ok-told.ensures)) c.write_both.ensures.ok

pub returns-clause-err : goal.returns-clause-err
returns-clause-err g c =
    let i = stream g.I.Read.remaining c.args.image.now c.start.new.image in
    let n = stream g.R.Read.remaining c.args.input.now c.start.new.input in
    let out : Stream = stream g.W.Write.contents c.args.out.now c.write_both.new.out in
    let told : Stream = stream g.P.Write.contents c.args.profile.now c.write_both.new.told in
    let s : Session = session_of i n out c.args.job.now in
    IfErr-weaker c.write_both.result (IsErrorOfTold IsProfile s told) (IsErrorOfProfiled s told) (profiled s told)
    (IfErr-weaker c.write_both.result (IsErrorOfBoth s.job c.run_plain.new.machine c.as_bytes.result.now out told) (IsErrorOfTold IsProfile s told)
    (IsErrorOfTold-both IsProfile s told c.in_ok-machine.machine c.run_plain.new.machine c.as_bytes.result.now (c.in_ok-machine.ensures.ok out)
    c.in_ok-run_plain.ensures.ok.end
    (c.as_bytes.ensures ∙ c.in_ok-run_plain.ensures.profile ∙ ap (λ (bs : List ℕ). bs ++ lines_of c.in_ok-machine.machine) c.in_ok-told.ensures)) c.write_both.ensures.err)

pub returns-clause-too_many_nodes : goal.returns-clause-too_many_nodes
returns-clause-too_many_nodes g c =
    let i = stream g.I.Read.remaining c.args.image.now c.start.new.image in
    let n = stream g.R.Read.remaining c.args.input.now c.start.new.input in
    let out : Stream = stream g.W.Write.contents c.args.out.now c.write_both.new.out in
    let told : Stream = stream g.P.Write.contents c.args.profile.now c.write_both.new.told in
    let s : Session = session_of i n out c.args.job.now in
    too_many_exact s told c.write_both.result (λ many. let yes = c.has_too_many_nodes.ensures.1 many in cc)
    (IfErr-weaker c.write_both.result (IsErrorOfBoth s.job c.run_plain.new.machine c.as_bytes.result.now out told) (IsErrorOfTold IsProfile s told)
    (IsErrorOfTold-both IsProfile s told c.in_ok-machine.machine c.run_plain.new.machine c.as_bytes.result.now (c.in_ok-machine.ensures.ok out)
    c.in_ok-run_plain.ensures.ok.end
    (c.as_bytes.ensures ∙ c.in_ok-run_plain.ensures.profile ∙ ap (λ (bs : List ℕ). bs ++ lines_of c.in_ok-machine.machine) c.in_ok-told.ensures)) c.write_both.ensures.err)

pub returns-clause-no_worker : goal.returns-clause-no_worker
returns-clause-no_worker g c =
    let out : Stream = stream g.W.Write.contents c.args.out.now c.write_both.new.out in
    let told : Stream = stream g.P.Write.contents c.args.profile.now c.write_both.new.told in
    IfErr-weaker c.write_both.result (IsErrorOfBoth c.args.job.now c.run_plain.new.machine c.as_bytes.result.now out told)
    (λ e. e ≢ NoWorker)
    (IsErrorOfBoth-worker c.args.job.now c.run_plain.new.machine c.as_bytes.result.now out told) c.write_both.ensures.err
