-- Each superstep is made, and written, after those before it.
use Rattle.std.proofs.Common.{◌≡◌, ◌∙◌, suc, not, refl, sym, ap, subst, arith}
use Rattle.std.specs.Prelude.{is_some}
use Rattle.std.specs.Io.KnownBytes.{Appends}
use Rattle.std.proofs.KnownBytes.{Appends-nil, Appends-trans}
use Rattle.std.proofs.lemmas.Bool.{false≢true}
use Rattle.std.proofs.lemmas.Result.{err_from_is_err_and}
use Rattle.machine_core.specs.Machine.{MachineState}
use Rattle.machine_core.specs.Turn.{end_of, superstep}
use Rattle.machine_core.proofs.Ends.{end_of-superstep, end_of-there}
use Rattle.machine_core.proofs.Options.{none_from}
use Rattle.machine_core.proofs.Supersteps.{rows_left}
use Rattle.bsp_session.specs.Streams.{stream}
use Rattle.bsp_session.proofs.Supersteps.{iterate-next, output-open}
use Rattle.bsp_session.proofs.LiveErrors.{IsErrorOfPlainRun-at}
use Rattle.bsp_session.proofs.plain_live.run_plain_live.Goals as goal

pub loop-machine-init : goal.loop-machine-init
loop-machine-init g c = record {
  so_far = (0, refl);
  same_end = refl;
  written = rw c.requires (Appends-nil (g.W.Write.contents c.args.out.now.inner));
  rises = omega arith;
}

pub make_plain_superstep-requires-clause-going : goal.make_plain_superstep-requires-clause-going
make_plain_superstep-requires-clause-going g c =
    let open_yet = ap is_some (sym c.outcome.ensures.value) ∙ c.is_none.ensures ∙ ap not c.loop-machine-test.true in
    none_from c.loop-machine.machine.outcome (λ x is. false≢true (sym open_yet ∙ ap is_some is))

pub returns-in_err-make_plain_superstep-clause-err : goal.returns-in_err-make_plain_superstep-clause-err
returns-in_err-make_plain_superstep-clause-err g c =
    let p = err_from_is_err_and c.from_residual.result c.from_residual.ensures.1 in
    let m = c.loop-machine.machine in
    let open_yet = ap is_some (sym c.outcome.ensures.value) ∙ c.is_none.ensures ∙ ap not c.loop-machine-test.true in
    let none = none_from m.outcome (λ x is. false≢true (sym open_yet ∙ ap is_some is)) in
    let so_far = c.loop-machine.invariant in
    rw (p.1, p.2) (IsErrorOfPlainRun-at c.args.machine.now m so_far.so_far.0
    (stream g.W.Write.contents c.args.out.now c.make_plain_superstep.new.out)
    (stream g.W.Write.contents c.loop-machine.out c.make_plain_superstep.new.out) _
    so_far.so_far.1 (end_of-superstep m c.outcome.ensures.sound ∙ so_far.same_end) none refl refl so_far.rises
    so_far.written
    c.in_err-make_plain_superstep.ensures.err)

pub loop-machine-smaller : goal.loop-machine-smaller
loop-machine-smaller g c =
    let open_yet = ap is_some (sym c.outcome.ensures.value) ∙ c.is_none.ensures ∙ ap not c.loop-machine-test.true in
    rows_left c.loop-machine.machine c.outcome.ensures.sound open_yet c.make_plain_superstep.new.machine c.in_ok-make_plain_superstep.ensures.made

pub loop-machine-preserved : goal.loop-machine-preserved
loop-machine-preserved g c =
    let m = c.loop-machine.machine in
    let so_far = c.loop-machine.invariant in
    let open_yet = ap is_some (sym c.outcome.ensures.value) ∙ c.is_none.ensures ∙ ap not c.loop-machine-test.true in
    let made : c.make_plain_superstep.new.machine ≡ superstep m = c.in_ok-make_plain_superstep.ensures.made in
    record {
      so_far = (suc so_far.so_far.0, made ∙ ap superstep so_far.so_far.1 ∙ sym (iterate-next so_far.so_far.0 c.args.machine.now));
      same_end = ap end_of made ∙ end_of-superstep m c.outcome.ensures.sound ∙ so_far.same_end;
      written = subst (Appends (g.W.Write.contents c.args.out.now.inner) (g.W.Write.contents c.make_plain_superstep.new.out.inner))
          (sym (ap (λ (x : MachineState). x.output) made ∙ output-open m open_yet))
          (Appends-trans _ _ _ _ _ so_far.written c.in_ok-make_plain_superstep.ensures.written);
      rises = omega arith;
    }

pub returns-clause-ended : goal.returns-clause-ended
returns-clause-ended g c =
    let over = ap is_some (sym c.outcome.ensures.value) ∙ c.is_none.ensures ∙ ap not c.loop-machine-test.false in
    record { end = sym (end_of-there c.loop-machine.machine over) ∙ c.loop-machine.invariant.same_end; over = over }
