-- Neither writer is touched but by the last stage.
use Rattle.std.proofs.Common.{refl, subst, sym}
use Rattle.std.proofs.lemmas.Result.{IfErr-weaker, IfOk-weaker, err_from_is_err_and}
use Rattle.bsp_session.specs.declared.errors.SessionError.TheVariants.{NoMemory}
use Rattle.exposed_runs.specs.Runs.{TellsExposed}
use Rattle.bsp_session.specs.Session.{Session, session_of}
use Rattle.bsp_session.specs.Streams.{Stream, stream}
use Rattle.bsp_session.specs.Told.{IsErrorOfBoth, IsErrorOfTold, ReportsAndTells, WritesBoth}
use Rattle.bsp_session.proofs.SessionErrors.{IsErrorOf-threads}
use Rattle.bsp_session.proofs.Told.{IsErrorOfTold-both, ReportsAndTells-both, untold}
use Rattle.bsp_session.proofs.exposed.exposed_session.Goals as goal

pub returns-in_err-machine-clause-err : goal.returns-in_err-machine-clause-err
returns-in_err-machine-clause-err g c =
    let p = err_from_is_err_and c.from_residual.result c.from_residual.ensures.1 in
    let i = stream g.I.Read.remaining c.args.image.now c.start.new.image in
    let n = stream g.R.Read.remaining c.args.input.now c.start.new.input in
    let out = stream g.W.Write.contents c.args.out.now c.args.out.now in
    let told = stream g.E.Write.contents c.args.exposed.now c.args.exposed.now in
    rw (p.1, p.2)
    (untold TellsExposed (session_of i n out c.args.job.now) told _
    (c.in_err-machine.ensures.err out (record { bytes = refl; failures = refl })) (record { bytes = refl; failures = refl }))

pub returns-in_err-machine-clause-nothing_written : goal.returns-in_err-machine-clause-nothing_written
returns-in_err-machine-clause-nothing_written g c =
    let p = err_from_is_err_and c.from_residual.result c.from_residual.ensures.1 in
    rw p.1 (λ other. (refl, refl))

pub returns-in_err-told-clause-err : goal.returns-in_err-told-clause-err
returns-in_err-told-clause-err g c =
    let p = err_from_is_err_and c.from_residual-in_err-told.result c.from_residual-in_err-told.ensures.1 in
    let i = stream g.I.Read.remaining c.args.image.now c.start.new.image in
    let n = stream g.R.Read.remaining c.args.input.now c.start.new.input in
    let out = stream g.W.Write.contents c.args.out.now c.args.out.now in
    let told = stream g.E.Write.contents c.args.exposed.now c.args.exposed.now in
    let s : Session = session_of i n out c.args.job.now in
    rw (p.1, p.2) (untold TellsExposed s told NoMemory
    (IsErrorOf-threads s c.in_ok-machine.machine NoMemory (c.in_ok-machine.ensures.ok out) (record { bytes = refl; failures = refl }) tt)
    (record { bytes = refl; failures = refl }))

pub returns-in_err-told-clause-nothing_written : goal.returns-in_err-told-clause-nothing_written
returns-in_err-told-clause-nothing_written g c =
    let p = err_from_is_err_and c.from_residual-in_err-told.result c.from_residual-in_err-told.ensures.1 in
    rw p.1 (λ other. (refl, refl))

pub returns-clause-ok : goal.returns-clause-ok
returns-clause-ok g c =
    let i = stream g.I.Read.remaining c.args.image.now c.start.new.image in
    let n = stream g.R.Read.remaining c.args.input.now c.start.new.input in
    let out : Stream = stream g.W.Write.contents c.args.out.now c.write_both.new.out in
    let told : Stream = stream g.E.Write.contents c.args.exposed.now c.write_both.new.told in
    let s : Session = session_of i n out c.args.job.now in
    IfOk-weaker c.write_both.result (WritesBoth s.job c.run.new.machine c.as_bytes.result.now out told) (ReportsAndTells TellsExposed s told)
    (ReportsAndTells-both TellsExposed s told c.in_ok-machine.machine c.run.new.machine c.as_bytes.result.now (c.in_ok-machine.ensures.ok out)
    c.in_ok-told.ensures.ok.end
    (subst (TellsExposed c.in_ok-machine.machine) (sym c.as_bytes.ensures.value) c.in_ok-told.ensures.told)) c.write_both.ensures.ok

pub returns-clause-err : goal.returns-clause-err
returns-clause-err g c =
    let i = stream g.I.Read.remaining c.args.image.now c.start.new.image in
    let n = stream g.R.Read.remaining c.args.input.now c.start.new.input in
    let out : Stream = stream g.W.Write.contents c.args.out.now c.write_both.new.out in
    let told : Stream = stream g.E.Write.contents c.args.exposed.now c.write_both.new.told in
    let s : Session = session_of i n out c.args.job.now in
    IfErr-weaker c.write_both.result (IsErrorOfBoth s.job c.run.new.machine c.as_bytes.result.now out told) (IsErrorOfTold TellsExposed s told)
    (IsErrorOfTold-both TellsExposed s told c.in_ok-machine.machine c.run.new.machine c.as_bytes.result.now (c.in_ok-machine.ensures.ok out)
    c.in_ok-told.ensures.ok.end
    (subst (TellsExposed c.in_ok-machine.machine) (sym c.as_bytes.ensures.value) c.in_ok-told.ensures.told)) c.write_both.ensures.err
