-- Without points the node runs as it does by itself; otherwise it is stepped, up to a point, its end or the limit.
use Rattle.std.proofs.Common.{◌≡◌, ◌+◌, ◌<◌, inl, inr, true, false, sym, ap, ◌∙◌, arith}
use Rattle.std.specs.Prelude.{is_some}
use Rattle.std.proofs.lemmas.Bool.{cases_order, false≢true}
use Rattle.std.proofs.lemmas.Result.{err_from_is_err_and, on_ok_weaker, on_err_weaker}
use Rattle.machine_core.specs.declared.event.Event.TheVariants.{Step}
use Rattle.machine_core.specs.Events.{is_enabled, event}
use Rattle.machine_core.specs.Machine.{MachineState}
use Rattle.machine_core.proofs.Options.{none_from}
use Rattle.machine_core.proofs.Phased.{enabled_from}
use Rattle.machine_core.proofs.Steps.{event-disabled}
use Rattle.bsp_debug.specs.Trace.{after_steps, point_at}
use Rattle.bsp_debug.proofs.Counts.{after_steps-zero}
use Rattle.bsp_debug.proofs.Traces.{after_steps-last, RunsOn-none, RunsOn-next, no_items, alone-ok, alone-err, both}
use Rattle.bsp_debug.proofs.trace.run_node_to_point.Goals as goal

pub returns-then-is_empty-clause-ok : goal.returns-then-is_empty-clause-ok
returns-then-is_empty-clause-ok g c =
    let none = no_items c.args.points.now (sym c.is_empty.ensures ∙ c.if-is_empty.true) in
    on_ok_weaker c.run_node.result
    (λ made. alone-ok c.args.points.now c.args.machine.now c.run_node.new.self c.args.rank c.args.most none made)
    c.run_node.ensures.ok

pub returns-then-is_empty-clause-err : goal.returns-then-is_empty-clause-err
returns-then-is_empty-clause-err g c =
    let none = no_items c.args.points.now (sym c.is_empty.ensures ∙ c.if-is_empty.true) in
    on_err_weaker c.run_node.result
    (λ made. alone-err c.args.points.now c.args.machine.now c.run_node.new.self c.args.rank c.args.most none made.0.0 made.0.1 made.0.2
    made.1)
    (both _ _ c.run_node.result c.run_node.ensures.err c.run_node.ensures.refuses)

pub loop-made-init : goal.loop-made-init
loop-made-init g c = record {
  on = RunsOn-none c.args.points.now c.args.machine.now c.args.rank;
  is = sym (after_steps-zero c.args.machine.now c.args.rank);
  few = omega arith;
  passes = λ some. absurd (omega (arith, some));
}

pub returns-in_err-apply-clause-err : goal.returns-in_err-apply-clause-err
returns-in_err-apply-clause-err g c =
    let p = err_from_is_err_and c.from_residual.result c.from_residual.ensures.1 in
    let so_far = c.loop-made.invariant in
    let may = enabled_from c.loop-made.machine c.args.rank c.in_err-apply.ensures.refuses in
    rw p.1 (
      c.loop-made._made,
      c.in_err-apply.ensures.err ∙ so_far.is,
      record {
        on = so_far.on;
        few = so_far.few;
        runs = ap (λ (x : MachineState). is_enabled x (Step c.args.rank)) (sym so_far.is) ∙ may;
        passes = λ some. ap (λ (x : MachineState). point_at c.args.points.now x c.args.rank) (sym so_far.is) ∙ so_far.passes some;
      },
    )

pub loop-made-preserved : goal.loop-made-preserved
loop-made-preserved g c =
    let so_far = c.loop-made.invariant in
    let m = c.args.machine.now in
    let enabled : is_enabled c.loop-made.machine (Step c.args.rank) ≡ true = sym c.in_ok-apply.ensures.enabled ∙ c.if-not-branch.false in
    let here = ap (λ (x : MachineState). is_enabled x (Step c.args.rank)) (sym so_far.is) ∙ enabled in
    let free = λ (some : 0 < c.loop-made._made). ap (λ (x : MachineState). point_at c.args.points.now x c.args.rank) (sym so_far.is)
    ∙ so_far.passes some in
    record {
      on = RunsOn-next c.args.points.now m c.args.rank c.loop-made._made so_far.on here free;
      is =
          c.in_ok-apply.ensures.ok ∙ ap (λ (x : MachineState). event x (Step c.args.rank)) so_far.is
          ∙ sym (after_steps-last c.loop-made._made m c.args.rank);
      few = omega (arith, c.loop-made-test.true);
      passes =
          λ some. none_from (point_at c.args.points.now c.apply.new.self c.args.rank)
          (λ p is. false≢true (sym c.if-is_some.false ∙ c.is_some.ensures ∙ ap is_some (c.point_of.ensures ∙ is)));
    }

pub returns-after-loop-made-clause-ok : goal.returns-after-loop-made-clause-ok
returns-after-loop-made-clause-ok g c =
    let so_far = c.loop-made.invariant in (
      c.loop-made._made,
      so_far.is,
      record {
        on = so_far.on;
        few = so_far.few;
        some = λ enabled may. omega (arith, may, c.loop-made-test.false);
        arrived = λ enabled short none. absurd (omega (arith, short, c.loop-made-test.false));
      },
    )

pub returns-then-not-branch-clause-ok : goal.returns-then-not-branch-clause-ok
returns-then-not-branch-clause-ok g c =
    let so_far = c.loop-made.invariant in
    let m = c.args.machine.now in
    let off : is_enabled c.loop-made.machine (Step c.args.rank) ≡ false = sym c.in_ok-apply.ensures.enabled ∙ c.if-not-branch.true in
    let same : c.apply.new.self ≡ c.loop-made.machine =
    c.in_ok-apply.ensures.ok ∙ event-disabled c.loop-made.machine (Step c.args.rank) off in
    let stopped = ap (λ (x : MachineState). is_enabled x (Step c.args.rank)) (sym so_far.is) ∙ off in (
      c.loop-made._made,
      same ∙ so_far.is,
      record {
        on = so_far.on;
        few = so_far.few;
        some = λ enabled may. elim (cases_order 0 c.loop-made._made) [
          | inl none ↦
              absurd (false≢true
              (sym off ∙ ap (λ (x : MachineState). is_enabled x (Step c.args.rank))
              (so_far.is ∙ ap (after_steps m c.args.rank) (sym none) ∙ after_steps-zero m c.args.rank) ∙ enabled))
          | inr other ↦ elim other [
            | inl some ↦ some
            | inr below ↦ absurd (omega (arith, below))
          ]
        ];
        arrived = λ enabled short none. false≢true (sym stopped ∙ enabled);
      },
    )

pub returns-then-is_some-clause-ok : goal.returns-then-is_some-clause-ok
returns-then-is_some-clause-ok g c =
    let so_far = c.loop-made.invariant in
    let m = c.args.machine.now in
    let enabled : is_enabled c.loop-made.machine (Step c.args.rank) ≡ true = sym c.in_ok-apply.ensures.enabled ∙ c.if-not-branch.false in
    let here = ap (λ (x : MachineState). is_enabled x (Step c.args.rank)) (sym so_far.is) ∙ enabled in
    let free = λ (some : 0 < c.loop-made._made). ap (λ (x : MachineState). point_at c.args.points.now x c.args.rank) (sym so_far.is)
    ∙ so_far.passes some in
    let there = c.in_ok-apply.ensures.ok ∙ ap (λ (x : MachineState). event x (Step c.args.rank)) so_far.is
    ∙ sym (after_steps-last c.loop-made._made m c.args.rank) in (
      c.loop-made._made + 1,
      there,
      record {
        on = RunsOn-next c.args.points.now m c.args.rank c.loop-made._made so_far.on here free;
        few = omega (arith, c.loop-made-test.true);
        some = λ on may. omega arith;
        arrived =
            λ on short none. false≢true (sym (ap is_some (ap (λ (x : MachineState). point_at c.args.points.now x c.args.rank) there ∙ none))
            ∙ ap is_some (sym c.point_of.ensures) ∙ sym c.is_some.ensures ∙ c.if-is_some.true);
      },
    )
