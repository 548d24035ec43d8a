-- The steps that the node made are taken down as one entry; one that does not run makes none and needs no entry.
use Rattle.std.proofs.Common.{◌≡◌, ◌-◌, true, false, sym, ap, ap₂, ◌∙◌, arith}
use Rattle.std.proofs.lemmas.Bool.{false≢true}
use Rattle.std.proofs.lemmas.Result.{err_from_is_err_and}
use Rattle.machine_core.specs.declared.event.Event.TheVariants.{Step}
use Rattle.machine_core.specs.Events.{is_enabled}
use Rattle.machine_core.specs.Machine.{MachineState}
use Rattle.bsp_debug.specs.Trace.{Traced, with_steps}
use Rattle.bsp_debug.proofs.Counts.{after_steps-zero}
use Rattle.bsp_debug.proofs.Traces.{RunsOn-none, to_point-is, on_to-is, trace-is}
use Rattle.bsp_debug.proofs.trace.Trace.run_to_point.Goals as goal

pub returns-then-not-runs-clause-ok : goal.returns-then-not-runs-clause-ok
returns-then-not-runs-clause-ok g c =
    let m = c.args.self.now.machine in
    let off : is_enabled m (Step c.args.rank) ≡ false =
    ap (λ (t : Traced). is_enabled t.machine (Step c.args.rank)) (sym c.self.view_is) ∙ sym c.runs.ensures ∙ c.if-not-runs.true in (
      record {
        on = RunsOn-none c.args.points.now m c.args.rank;
        few = omega arith;
        some = λ enabled may. absurd (false≢true (sym off ∙ enabled));
        arrived =
            λ enabled short none.
            absurd (false≢true
            (sym off ∙ ap (λ (x : MachineState). is_enabled x (Step c.args.rank)) (sym (after_steps-zero m c.args.rank)) ∙ enabled));
      },
      sym (ap (λ (x : MachineState). record c.args.self.now { machine = x }) (after_steps-zero m c.args.rank)),
    )

pub returns-in_err-reserve-clause-err : goal.returns-in_err-reserve-clause-err
returns-in_err-reserve-clause-err g c =
    let p = err_from_is_err_and c.from_residual.result c.from_residual.ensures.1 in
    let m = c.args.self.now.machine in
    let same : c.self.inside.machine ≡ m = ap (λ (t : Traced). t.machine) c.self.view_is in
    let on : is_enabled m (Step c.args.rank) ≡ true =
    ap (λ (x : MachineState). is_enabled x (Step c.args.rank)) (sym same) ∙ sym c.runs.ensures ∙ c.if-not-runs.false in
    rw p.1 (
      0,
      record {
        on = RunsOn-none c.args.points.now m c.args.rank;
        few = omega arith;
        runs = ap (λ (x : MachineState). is_enabled x (Step c.args.rank)) (after_steps-zero m c.args.rank) ∙ on;
        passes = λ some. absurd (omega (arith, some));
      },
      rw (c.in_err-reserve.ensures.items)
          (c.self.view_is ∙ sym (ap (λ (x : MachineState). record c.args.self.now { machine = x }) (after_steps-zero m c.args.rank))),
    )

pub invariant_of-self-in_err-ran : goal.invariant_of-self-in_err-ran
invariant_of-self-in_err-ran g c =
    let t : Traced = record { start = c.self.inside.start.value; machine = c.self.inside.machine; made = c.self.inside.made.items } in
    let made = c.in_err-ran.ensures.err in
    trace-is t c.args.self.now c.self.view_is c.args.rank c.run_node_to_point-ran.new.machine c.note_steps.new.made.items
    c.saturating_sub-count.result
    (c.saturating_sub-count.ensures ∙ ap₂ (λ a b. a - b) c.ticks_of.ensures c.ticks_of-before.ensures)
    (c.note_steps.ensures ∙ ap (λ xs. with_steps xs c.args.rank c.saturating_sub-count.result) c.in_ok-reserve.ensures.items)
    made.0 made.1 c.self.invariant c.requires

pub returns-in_err-ran-clause-trace : goal.returns-in_err-ran-clause-trace
returns-in_err-ran-clause-trace g c = invariant_of-self-in_err-ran g c

pub returns-in_err-ran-clause-err : goal.returns-in_err-ran-clause-err
returns-in_err-ran-clause-err g c =
    let p = err_from_is_err_and c.from_residual-in_err-ran.result c.from_residual-in_err-ran.ensures.1 in
    let t : Traced = record { start = c.self.inside.start.value; machine = c.self.inside.machine; made = c.self.inside.made.items } in
    rw p.1 (on_to-is t c.args.self.now c.self.view_is c.args.rank c.run_node_to_point-ran.new.machine c.note_steps.new.made.items
    c.saturating_sub-count.result
    (c.saturating_sub-count.ensures ∙ ap₂ (λ a b. a - b) c.ticks_of.ensures c.ticks_of-before.ensures)
    (c.note_steps.ensures ∙ ap (λ xs. with_steps xs c.args.rank c.saturating_sub-count.result) c.in_ok-reserve.ensures.items)
    c.args.points.now c.args.most c.in_err-ran.ensures.err)

pub invariant_of-self-2 : goal.invariant_of-self-2
invariant_of-self-2 g c =
    let t : Traced = record { start = c.self.inside.start.value; machine = c.self.inside.machine; made = c.self.inside.made.items } in
    let made = c.in_ok-ran.ensures.ok in
    trace-is t c.args.self.now c.self.view_is c.args.rank c.run_node_to_point-ran.new.machine c.note_steps.new.made.items
    c.saturating_sub-count.result
    (c.saturating_sub-count.ensures ∙ ap₂ (λ a b. a - b) c.ticks_of.ensures c.ticks_of-before.ensures)
    (c.note_steps.ensures ∙ ap (λ xs. with_steps xs c.args.rank c.saturating_sub-count.result) c.in_ok-reserve.ensures.items)
    made.0 made.1 c.self.invariant c.requires

pub returns-clause-trace : goal.returns-clause-trace
returns-clause-trace g c = invariant_of-self-2 g c

pub returns-clause-ok : goal.returns-clause-ok
returns-clause-ok g c =
    let t : Traced = record { start = c.self.inside.start.value; machine = c.self.inside.machine; made = c.self.inside.made.items } in
    to_point-is t c.args.self.now c.self.view_is c.args.rank c.run_node_to_point-ran.new.machine c.note_steps.new.made.items
    c.saturating_sub-count.result
    (c.saturating_sub-count.ensures ∙ ap₂ (λ a b. a - b) c.ticks_of.ensures c.ticks_of-before.ensures)
    (c.note_steps.ensures ∙ ap (λ xs. with_steps xs c.args.rank c.saturating_sub-count.result) c.in_ok-reserve.ensures.items)
    c.args.points.now c.args.most c.in_ok-ran.ensures.ok
