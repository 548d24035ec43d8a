-- Each error is the first fault of settings and image, or want of memory where they have none; the nodes made are those of the start.
use Rattle.std.proofs.Common.{Err, refl, sym, ap, subst}
use Rattle.std.proofs.lemmas.Result.{IfOk-from_err}
use Rattle.cost_ledger.specs.CostRow.{PreparedRows}
use Rattle.machine_core.specs.Sound.{IsSoundMachine}
use Rattle.machine_core.proofs.Fresh.{IsSoundMachine-fresh}
use Rattle.machine_core.proofs.Refusals.{err_of, no_fault-named, NamesFault-none, NamesFault-settings, NamesFault-nodes}
use Rattle.machine_core.proofs.Starts.{AreInRange-from, machine_fault-none, fresh-parts}
use Rattle.machine_core.proofs.machine.Machine.new.Goals as goal

pub returns-in_err-check : goal.returns-in_err-check
returns-in_err-check g c =
    let s = c.args.settings in
    let is =
    NamesFault-settings c.from_residual.result c.args.image.now s _ (err_of c.from_residual.result _ c.from_residual.ensures.1)
    (sym c.in_err-check.ensures) in
    record { ok = IfOk-from_err c.from_residual.result _ c.from_residual.ensures.0; fault = is }

pub returns-in_err-nodes : goal.returns-in_err-nodes
returns-in_err-nodes g c =
    let r = c.from_residual-in_err-nodes in
    let failed = c.in_err-nodes.ensures in
    let is =
    NamesFault-nodes r.result (Err c.in_err-nodes.field-0.0) c.args.image.now c.args.settings _ (err_of r.result _ r.ensures.1) refl
    (sym c.in_ok-check.ensures) failed.outside failed.kinds in
    record { ok = IfOk-from_err r.result _ r.ensures.0; fault = is }

pub returns-in_err-started : goal.returns-in_err-started
returns-in_err-started g c =
    let r = c.from_residual-in_err-started in
    let none = machine_fault-none c.args.image.now c.args.settings (sym c.in_ok-check.ensures) c.in_ok-nodes.ensures.fits in
    let is = NamesFault-none r.result _ (err_of r.result _ r.ensures.1) none in
    record { ok = IfOk-from_err r.result _ r.ensures.0; fault = is }

pub returns-in_err-input : goal.returns-in_err-input
returns-in_err-input g c =
    let r = c.from_residual-in_err-input in
    let none = machine_fault-none c.args.image.now c.args.settings (sym c.in_ok-check.ensures) c.in_ok-nodes.ensures.fits in
    let is = NamesFault-none r.result _ (err_of r.result _ r.ensures.1) none in
    record { ok = IfOk-from_err r.result _ r.ensures.0; fault = is }

pub invariant_of-result : goal.invariant_of-result
invariant_of-result g c =
    let started = c.in_ok-started.ensures.items_if_clones_equal (λ y is. is) in
    let parts =
    fresh-parts c.args.image.now c.args.settings c.args.input.items c.in_ok-input.input c.in_ok-nodes.nodes.items
    c.in_ok-started.started.items c.new.result.items c.new-2.result.rows
    c.in_ok-nodes.ensures.ok started c.in_ok-input.ensures.ok c.new.ensures.items (ap (λ (x : PreparedRows). x.rows) c.new-2.ensures) in
    subst IsSoundMachine (sym parts)
    (IsSoundMachine-fresh c.args.image.now c.args.settings c.args.input.items
    (AreInRange-from c.args.settings (sym c.in_ok-check.ensures)))

pub returns : goal.returns
returns g c =
    let started = c.in_ok-started.ensures.items_if_clones_equal (λ y is. is) in
    let none = machine_fault-none c.args.image.now c.args.settings (sym c.in_ok-check.ensures) c.in_ok-nodes.ensures.fits in
    let parts =
    fresh-parts c.args.image.now c.args.settings c.args.input.items c.in_ok-input.input c.in_ok-nodes.nodes.items
    c.in_ok-started.started.items c.new.result.items c.new-2.result.rows
    c.in_ok-nodes.ensures.ok started c.in_ok-input.ensures.ok c.new.ensures.items (ap (λ (x : PreparedRows). x.rows) c.new-2.ensures) in
    record { ok = parts; fault = no_fault-named _ none }
