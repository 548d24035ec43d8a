-- The steps that the node made are taken down as one entry, and those before a refusal too.
use Rattle.std.proofs.Common.{◌-◌, sym, ap, ap₂, ◌∙◌, arith}
use Rattle.std.proofs.lemmas.Result.{err_from_is_err_and}
use Rattle.machine_core.specs.Machine.{MachineState}
use Rattle.bsp_debug.specs.Trace.{Traced, with_steps}
use Rattle.bsp_debug.proofs.Counts.{after_steps-zero, steps_at-most}
use Rattle.bsp_debug.proofs.Traces.{count-is, stepped-is, trace-is, part-is}
use Rattle.bsp_debug.proofs.trace.Trace.steps.Goals as goal

pub returns-in_err-reserve-clause-err : goal.returns-in_err-reserve-clause-err
returns-in_err-reserve-clause-err g c =
    let p = err_from_is_err_and c.from_residual.result c.from_residual.ensures.1 in
    let t : Traced = record { start = c.self.inside.start.value; machine = c.self.inside.machine; made = c.self.inside.made.items } in
    rw p.1 (
      0,
      omega arith,
      rw (c.in_err-reserve.ensures.items)
          (c.self.view_is
          ∙ sym (ap (λ (m : MachineState). record c.args.self.now { machine = m }) (after_steps-zero c.args.self.now.machine c.args.rank))),
    )

pub invariant_of-self-in_err-ran : goal.invariant_of-self-in_err-ran
invariant_of-self-in_err-ran g c =
    let t : Traced = record { start = c.self.inside.start.value; machine = c.self.inside.machine; made = c.self.inside.made.items } in
    let made = c.in_err-ran.ensures.err in
    trace-is t c.args.self.now c.self.view_is c.args.rank c.run_node-ran.new.self c.note_steps.new.made.items c.saturating_sub-count.result
    (c.saturating_sub-count.ensures ∙ ap₂ (λ a b. a - b) c.ticks_of.ensures c.ticks_of-before.ensures)
    (c.note_steps.ensures ∙ ap (λ xs. with_steps xs c.args.rank c.saturating_sub-count.result) c.in_ok-reserve.ensures.items)
    made.0 made.2 c.self.invariant c.requires

pub returns-in_err-ran-clause-err : goal.returns-in_err-ran-clause-err
returns-in_err-ran-clause-err g c =
    let p = err_from_is_err_and c.from_residual-in_err-ran.result c.from_residual-in_err-ran.ensures.1 in
    let t : Traced = record { start = c.self.inside.start.value; machine = c.self.inside.machine; made = c.self.inside.made.items } in
    rw p.1 (part-is t c.args.self.now c.self.view_is c.args.rank c.run_node-ran.new.self c.note_steps.new.made.items
    c.saturating_sub-count.result
    (c.saturating_sub-count.ensures ∙ ap₂ (λ a b. a - b) c.ticks_of.ensures c.ticks_of-before.ensures)
    (c.note_steps.ensures ∙ ap (λ xs. with_steps xs c.args.rank c.saturating_sub-count.result) c.in_ok-reserve.ensures.items)
    c.args.most c.in_err-ran.ensures.err)

pub invariant_of-self-2 : goal.invariant_of-self-2
invariant_of-self-2 g c =
    let t : Traced = record { start = c.self.inside.start.value; machine = c.self.inside.machine; made = c.self.inside.made.items } in
    trace-is t c.args.self.now c.self.view_is c.args.rank c.run_node-ran.new.self c.note_steps.new.made.items c.saturating_sub-count.result
    (c.saturating_sub-count.ensures ∙ ap₂ (λ a b. a - b) c.ticks_of.ensures c.ticks_of-before.ensures)
    (c.note_steps.ensures ∙ ap (λ xs. with_steps xs c.args.rank c.saturating_sub-count.result) c.in_ok-reserve.ensures.items)
    c.args.most c.in_ok-ran.ensures.ok c.self.invariant c.requires

pub returns-clause-count : goal.returns-clause-count
returns-clause-count g c =
    let t : Traced = record { start = c.self.inside.start.value; machine = c.self.inside.machine; made = c.self.inside.made.items } in
    count-is t c.args.self.now c.self.view_is c.args.rank c.run_node-ran.new.self c.note_steps.new.made.items c.saturating_sub-count.result
    (c.saturating_sub-count.ensures ∙ ap₂ (λ a b. a - b) c.ticks_of.ensures c.ticks_of-before.ensures)
    (c.note_steps.ensures ∙ ap (λ xs. with_steps xs c.args.rank c.saturating_sub-count.result) c.in_ok-reserve.ensures.items)
    c.args.most c.in_ok-ran.ensures.ok

pub returns-clause-few : goal.returns-clause-few
returns-clause-few g c =
    let is = returns-clause-count g c in
    omega (arith, is, steps_at-most c.args.most c.args.self.now.machine c.args.rank)

pub returns-clause-ok : goal.returns-clause-ok
returns-clause-ok g c =
    let t : Traced = record { start = c.self.inside.start.value; machine = c.self.inside.machine; made = c.self.inside.made.items } in
    stepped-is t c.args.self.now c.self.view_is c.args.rank c.run_node-ran.new.self c.note_steps.new.made.items
    c.saturating_sub-count.result
    (c.saturating_sub-count.ensures ∙ ap₂ (λ a b. a - b) c.ticks_of.ensures c.ticks_of-before.ensures)
    (c.note_steps.ensures ∙ ap (λ xs. with_steps xs c.args.rank c.saturating_sub-count.result) c.in_ok-reserve.ensures.items)
    c.args.most c.in_ok-ran.ensures.ok

pub returns-in_err-reserve-clause-trace : goal.returns-in_err-reserve-clause-trace
returns-in_err-reserve-clause-trace g c = rw (c.in_err-reserve.ensures.items) c.self.invariant

pub returns-in_err-ran-clause-trace : goal.returns-in_err-ran-clause-trace
returns-in_err-ran-clause-trace g c = invariant_of-self-in_err-ran g c

pub returns-clause-trace : goal.returns-clause-trace
returns-clause-trace g c = invariant_of-self-2 g c
