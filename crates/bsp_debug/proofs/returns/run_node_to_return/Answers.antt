-- The loop's steps are those of the definition: where it stops the node has returned, and a refusal comes before that.
use Rattle.std.proofs.Common.{◌≡◌, ◌+◌, ◌<◌, ◌≤◌, inl, inr, true, false, sym, ap, ◌∙◌, arith}
use Rattle.std.proofs.lemmas.Bool.{cases_order, false≢true}
use Rattle.std.proofs.lemmas.Result.{err_from_is_err_and}
use Rattle.machine_core.specs.declared.event.Event.TheVariants.{Step}
use Rattle.machine_core.specs.declared.settings.Settings.{Settings}
use Rattle.machine_core.specs.Events.{is_enabled, event}
use Rattle.machine_core.specs.Machine.{MachineState}
use Rattle.machine_core.proofs.Phased.{enabled_from}
use Rattle.machine_core.proofs.Steps.{event-disabled}
use Rattle.machine_core.proofs.Walks.{stopped-after}
use Rattle.bsp_debug.specs.Returns.{has_arrived}
use Rattle.bsp_debug.specs.Trace.{after_steps}
use Rattle.bsp_debug.proofs.Counts.{after_steps-zero}
use Rattle.bsp_debug.proofs.Arrivals.{GoesOn-none, GoesOn-next}
use Rattle.bsp_debug.proofs.Traces.{after_steps-last}
use Rattle.bsp_debug.proofs.returns.run_node_to_return.Goals as goal

pub loop-made-init : goal.loop-made-init
loop-made-init g c = record {
  on = GoesOn-none c.args.points.now c.args.machine.now c.args.rank c.args.addr c.args.sp;
  is = sym (after_steps-zero c.args.machine.now c.args.rank);
  passes = λ some. absurd (omega (arith, some));
}

pub returns-in_err-apply-clause-err : goal.returns-in_err-apply-clause-err
returns-in_err-apply-clause-err g c =
    let p = err_from_is_err_and c.from_residual.result c.from_residual.ensures.1 in
    let so_far = c.loop-made.invariant in
    let m = c.args.machine.now in
    let here : c.apply.new.self ≡ after_steps m c.args.rank c.loop-made._made = c.in_err-apply.ensures.err ∙ so_far.is in
    let may = enabled_from c.loop-made.machine c.args.rank c.in_err-apply.ensures.refuses in
    rw p.1 (
      c.loop-made._made,
      here,
      record {
        on = so_far.on;
        runs = ap (λ (x : MachineState). is_enabled x (Step c.args.rank)) (sym so_far.is) ∙ may;
        passes = λ some. ap (has_arrived c.args.points.now c.args.rank c.args.addr c.args.sp) (sym so_far.is) ∙ so_far.passes some;
      },
    )

pub loop-made-preserved : goal.loop-made-preserved
loop-made-preserved g c =
    let so_far = c.loop-made.invariant in
    let m = c.args.machine.now in
    let enabled : is_enabled c.loop-made.machine (Step c.args.rank) ≡ true = sym c.in_ok-apply.ensures.enabled ∙ c.if-not-branch.false in
    let here = ap (λ (x : MachineState). is_enabled x (Step c.args.rank)) (sym so_far.is) ∙ enabled in
    let free = λ (some : 0 < c.loop-made._made). ap (has_arrived c.args.points.now c.args.rank c.args.addr c.args.sp) (sym so_far.is)
    ∙ so_far.passes some in
    record {
      on = GoesOn-next c.args.points.now m c.args.rank c.args.addr c.args.sp c.loop-made._made so_far.on here free;
      is =
          c.in_ok-apply.ensures.ok ∙ ap (λ (x : MachineState). event x (Step c.args.rank)) so_far.is
          ∙ sym (after_steps-last c.loop-made._made m c.args.rank);
      passes = λ some. sym c.has_arrived.ensures ∙ c.if-has_arrived.false;
    }

pub returns-after-loop-made-clause-ok : goal.returns-after-loop-made-clause-ok
returns-after-loop-made-clause-ok g c =
    let so_far = c.loop-made.invariant in
    let m = c.args.machine.now in
    let sound = c.settings-limit.ensures.sound in
    let limit : c.settings-limit.result.limit ≡ m.settings.limit = ap (λ (s : Settings). s.limit) c.settings-limit.ensures.value in
    let off = stopped-after m c.args.rank sound in
    let past : m.settings.limit ≤ c.loop-made._made = omega (arith, limit, c.loop-made-test.false) in (
      c.loop-made._made,
      so_far.is,
      record {
        on = so_far.on;
        some = λ enabled. omega (arith, past, sound.settings.ticks);
        arrived = λ enabled. elim (cases_order m.settings.limit c.loop-made._made) [
          | inl same ↦ absurd (false≢true (sym off ∙ ap (λ k. is_enabled (after_steps m c.args.rank k) (Step c.args.rank)) same ∙ enabled))
          | inr other ↦ elim other [
            | inl before ↦ absurd (false≢true (sym off ∙ so_far.on.runs m.settings.limit before))
            | inr after ↦ absurd (omega (arith, past, after))
          ]
        ];
      },
    )

pub returns-then-not-branch-clause-ok : goal.returns-then-not-branch-clause-ok
returns-then-not-branch-clause-ok g c =
    let so_far = c.loop-made.invariant in
    let m = c.args.machine.now in
    let off : is_enabled c.loop-made.machine (Step c.args.rank) ≡ false = sym c.in_ok-apply.ensures.enabled ∙ c.if-not-branch.true in
    let same : c.apply.new.self ≡ c.loop-made.machine =
    c.in_ok-apply.ensures.ok ∙ event-disabled c.loop-made.machine (Step c.args.rank) off in
    let stopped = ap (λ (x : MachineState). is_enabled x (Step c.args.rank)) (sym so_far.is) ∙ off in (
      c.loop-made._made,
      same ∙ so_far.is,
      record {
        on = so_far.on;
        some = λ enabled. elim (cases_order 0 c.loop-made._made) [
          | inl none ↦
              absurd (false≢true
              (sym off ∙ ap (λ (x : MachineState). is_enabled x (Step c.args.rank))
              (so_far.is ∙ ap (after_steps m c.args.rank) (sym none) ∙ after_steps-zero m c.args.rank) ∙ enabled))
          | inr other ↦ elim other [
            | inl some ↦ some
            | inr below ↦ absurd (omega (arith, below))
          ]
        ];
        arrived = λ enabled. absurd (false≢true (sym stopped ∙ enabled));
      },
    )

pub returns-then-has_arrived-clause-ok : goal.returns-then-has_arrived-clause-ok
returns-then-has_arrived-clause-ok g c =
    let so_far = c.loop-made.invariant in
    let m = c.args.machine.now in
    let enabled : is_enabled c.loop-made.machine (Step c.args.rank) ≡ true = sym c.in_ok-apply.ensures.enabled ∙ c.if-not-branch.false in
    let here = ap (λ (x : MachineState). is_enabled x (Step c.args.rank)) (sym so_far.is) ∙ enabled in
    let free = λ (some : 0 < c.loop-made._made). ap (has_arrived c.args.points.now c.args.rank c.args.addr c.args.sp) (sym so_far.is)
    ∙ so_far.passes some in
    let there = c.in_ok-apply.ensures.ok ∙ ap (λ (x : MachineState). event x (Step c.args.rank)) so_far.is
    ∙ sym (after_steps-last c.loop-made._made m c.args.rank) in (
      c.loop-made._made + 1,
      there,
      record {
        on = GoesOn-next c.args.points.now m c.args.rank c.args.addr c.args.sp c.loop-made._made so_far.on here free;
        some = λ on. omega arith;
        arrived =
            λ on. ap (has_arrived c.args.points.now c.args.rank c.args.addr c.args.sp) (sym there) ∙ sym c.has_arrived.ensures
            ∙ c.if-has_arrived.true;
      },
    )
