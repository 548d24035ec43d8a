-- Neither writer is touched but by the last stage.
use Rattle.std.proofs.Common.{◌∙◌, Err, refl}
use Rattle.std.proofs.lemmas.Result.{IfErr-weaker, IfOk-weaker, err_from_is_err_and}
use Rattle.bsp_session.specs.Profiles.{IsErrorOfProfiled, IsProfile}
use Rattle.bsp_session.specs.Session.{Session, session_of}
use Rattle.bsp_session.specs.Streams.{Stream, stream}
use Rattle.bsp_session.specs.Told.{IsErrorOfBoth, IsErrorOfTold, ReportsAndTells, WritesBoth}
use Rattle.bsp_session.proofs.Jobs.{numbers_are_in_range}
use Rattle.bsp_session.proofs.Profiled.{profiled, too_many_exact}
use Rattle.bsp_session.proofs.SessionErrors.{IsErrorOf-threads}
use Rattle.bsp_session.proofs.Told.{IsErrorOfTold-both, ReportsAndTells-both, untold}
use Rattle.bsp_session.proofs.profiles.profile_session.Goals as goal

pub returns-then-has_too_many_nodes-clause-err : goal.returns-then-has_too_many_nodes-clause-err
returns-then-has_too_many_nodes-clause-err g c = record {
  nodes = c.has_too_many_nodes.ensures.0 c.if-has_too_many_nodes.true;
  image = record { bytes = refl; failures = refl };
  input = record { bytes = refl; failures = refl };
  out = record { bytes = refl; failures = refl };
  unwritten = record { bytes = refl; failures = refl };
}

pub returns-in_err-machine-clause-err : goal.returns-in_err-machine-clause-err
returns-in_err-machine-clause-err g c =
    let p = err_from_is_err_and c.from_residual.result c.from_residual.ensures.1 in
    let i = stream g.I.Read.remaining c.args.image.now c.start.new.image in
    let n = stream g.R.Read.remaining c.args.input.now c.start.new.input in
    let out = stream g.W.Write.contents c.args.out.now c.args.out.now in
    let told = stream g.P.Write.contents c.args.profile.now c.args.profile.now in
    let s : Session = session_of i n out c.args.job.now in
    rw (p.1, p.2)
    (profiled s told _ (untold IsProfile s told _
    (c.in_err-machine.ensures.err out (record { bytes = refl; failures = refl })) (record { bytes = refl; failures = refl })))

pub returns-in_err-machine-clause-too_many_nodes : goal.returns-in_err-machine-clause-too_many_nodes
returns-in_err-machine-clause-too_many_nodes g c =
    let p = err_from_is_err_and c.from_residual.result c.from_residual.ensures.1 in
    let i = stream g.I.Read.remaining c.args.image.now c.start.new.image in
    let n = stream g.R.Read.remaining c.args.input.now c.start.new.input in
    let out = stream g.W.Write.contents c.args.out.now c.args.out.now in
    let told = stream g.P.Write.contents c.args.profile.now c.args.profile.now in
    let s : Session = session_of i n out c.args.job.now in
    rw (p.1, p.2)
    (too_many_exact s told (Err _) (λ many. let yes = c.has_too_many_nodes.ensures.1 many in cc) (untold IsProfile s told _
    (c.in_err-machine.ensures.err out (record { bytes = refl; failures = refl })) (record { bytes = refl; failures = refl })))

pub returns-in_err-machine-clause-nothing_written : goal.returns-in_err-machine-clause-nothing_written
returns-in_err-machine-clause-nothing_written g c =
    let p = err_from_is_err_and c.from_residual.result c.from_residual.ensures.1 in
    rw p.1 (λ other. (refl, refl))

pub run_profiled-requires-after_bounds : goal.run_profiled-requires-after_bounds
run_profiled-requires-after_bounds g c =
    let out = stream g.W.Write.contents c.args.out.now c.args.out.now in
    λ lifetimes bounds. numbers_are_in_range c.args.job.now (c.in_ok-machine.ensures.ok out).read.settings

pub returns-in_err-told-clause-err : goal.returns-in_err-told-clause-err
returns-in_err-told-clause-err g c =
    let p = err_from_is_err_and c.from_residual-in_err-told.result c.from_residual-in_err-told.ensures.1 in
    let i = stream g.I.Read.remaining c.args.image.now c.start.new.image in
    let n = stream g.R.Read.remaining c.args.input.now c.start.new.input in
    let out = stream g.W.Write.contents c.args.out.now c.args.out.now in
    let told = stream g.P.Write.contents c.args.profile.now c.args.profile.now in
    let s : Session = session_of i n out c.args.job.now in
    rw (p.1, p.2) (profiled s told _ (untold IsProfile s told _
    (IsErrorOf-threads s c.in_ok-machine.machine _ (c.in_ok-machine.ensures.ok out) (record { bytes = refl; failures = refl })
    c.in_err-told.ensures.end.err) (record { bytes = refl; failures = refl })))

pub returns-in_err-told-clause-too_many_nodes : goal.returns-in_err-told-clause-too_many_nodes
returns-in_err-told-clause-too_many_nodes g c =
    let p = err_from_is_err_and c.from_residual-in_err-told.result c.from_residual-in_err-told.ensures.1 in
    let i = stream g.I.Read.remaining c.args.image.now c.start.new.image in
    let n = stream g.R.Read.remaining c.args.input.now c.start.new.input in
    let out = stream g.W.Write.contents c.args.out.now c.args.out.now in
    let told = stream g.P.Write.contents c.args.profile.now c.args.profile.now in
    let s : Session = session_of i n out c.args.job.now in
    rw (p.1, p.2) (too_many_exact s told (Err _) (λ many. let yes = c.has_too_many_nodes.ensures.1 many in cc)
    (untold IsProfile s told _
    (IsErrorOf-threads s c.in_ok-machine.machine _ (c.in_ok-machine.ensures.ok out) (record { bytes = refl; failures = refl })
    c.in_err-told.ensures.end.err) (record { bytes = refl; failures = refl })))

pub returns-in_err-told-clause-nothing_written : goal.returns-in_err-told-clause-nothing_written
returns-in_err-told-clause-nothing_written g c =
    let p = err_from_is_err_and c.from_residual-in_err-told.result c.from_residual-in_err-told.ensures.1 in
    rw p.1 (λ other. (refl, refl))

pub returns-clause-ok : goal.returns-clause-ok
returns-clause-ok g c =
    let i = stream g.I.Read.remaining c.args.image.now c.start.new.image in
    let n = stream g.R.Read.remaining c.args.input.now c.start.new.input in
    let out : Stream = stream g.W.Write.contents c.args.out.now c.write_both.new.out in
    let told : Stream = stream g.P.Write.contents c.args.profile.now c.write_both.new.told in
    let s : Session = session_of i n out c.args.job.now in
    IfOk-weaker c.write_both.result (WritesBoth s.job c.run_profiled.new.machine c.as_bytes.result.now out told)
    (ReportsAndTells IsProfile s told)
    (ReportsAndTells-both IsProfile s told c.in_ok-machine.machine c.run_profiled.new.machine c.as_bytes.result.now
    (c.in_ok-machine.ensures.ok out) c.in_ok-told.ensures.end.is
    (c.as_bytes.ensures ∙ c.in_ok-told.ensures.profile)) c.write_both.ensures.ok

pub returns-clause-err : goal.returns-clause-err
returns-clause-err g c =
    let i = stream g.I.Read.remaining c.args.image.now c.start.new.image in
    let n = stream g.R.Read.remaining c.args.input.now c.start.new.input in
    let out : Stream = stream g.W.Write.contents c.args.out.now c.write_both.new.out in
    let told : Stream = stream g.P.Write.contents c.args.profile.now c.write_both.new.told in
    let s : Session = session_of i n out c.args.job.now in
    IfErr-weaker c.write_both.result (IsErrorOfTold IsProfile s told) (IsErrorOfProfiled s told) (profiled s told)
    (IfErr-weaker c.write_both.result (IsErrorOfBoth s.job c.run_profiled.new.machine c.as_bytes.result.now out told)
    (IsErrorOfTold IsProfile s told)
    (IsErrorOfTold-both IsProfile s told c.in_ok-machine.machine c.run_profiled.new.machine c.as_bytes.result.now
    (c.in_ok-machine.ensures.ok out) c.in_ok-told.ensures.end.is
    (c.as_bytes.ensures ∙ c.in_ok-told.ensures.profile)) c.write_both.ensures.err)

pub returns-clause-too_many_nodes : goal.returns-clause-too_many_nodes
returns-clause-too_many_nodes g c =
    let i = stream g.I.Read.remaining c.args.image.now c.start.new.image in
    let n = stream g.R.Read.remaining c.args.input.now c.start.new.input in
    let out : Stream = stream g.W.Write.contents c.args.out.now c.write_both.new.out in
    let told : Stream = stream g.P.Write.contents c.args.profile.now c.write_both.new.told in
    let s : Session = session_of i n out c.args.job.now in
    too_many_exact s told c.write_both.result (λ many. let yes = c.has_too_many_nodes.ensures.1 many in cc)
    (IfErr-weaker c.write_both.result (IsErrorOfBoth s.job c.run_profiled.new.machine c.as_bytes.result.now out told)
    (IsErrorOfTold IsProfile s told)
    (IsErrorOfTold-both IsProfile s told c.in_ok-machine.machine c.run_profiled.new.machine c.as_bytes.result.now
    (c.in_ok-machine.ensures.ok out) c.in_ok-told.ensures.end.is
    (c.as_bytes.ensures ∙ c.in_ok-told.ensures.profile)) c.write_both.ensures.err)
