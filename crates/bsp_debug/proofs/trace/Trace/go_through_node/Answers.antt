-- A node that stands at a point stops `go` there; otherwise it makes its steps, up to a point, its end or a refusal.
use Rattle.std.proofs.Common.{◌≡◌, ◌≢◌, true, [], Some, None, option_map, sym, ap, ◌∙◌}
use Rattle.std.specs.declared.alloc.AllocError.{AllocError}
use Rattle.std.proofs.lemmas.Result.{err_from_is_err_and}
use Rattle.machine_core.specs.declared.event.Event.TheVariants.{Step}
use Rattle.machine_core.specs.declared.settings.Settings.{Settings}
use Rattle.machine_core.specs.Machine.{MachineState}
use Rattle.machine_core.specs.Events.{is_enabled}
use Rattle.bsp_debug.specs.Reply.{stopped}
use Rattle.bsp_debug.specs.Stops.{address_stop}
use Rattle.bsp_debug.specs.Trace.{point_at}
use Rattle.bsp_debug.proofs.Going.{IsGoing-way, IsGoing-stop, node-whole, node-order, node-gone, node-refused}
use Rattle.bsp_debug.proofs.Stops.{address_stop-at, point_at-enabled}
use Rattle.bsp_debug.proofs.Traces.{no_items, some_items}
use Rattle.bsp_debug.proofs.trace.Trace.go_through_node.Goals.{then-not-is_empty+in_default, else-not-is_empty}
use Rattle.bsp_debug.proofs.trace.Trace.go_through_node.Goals as goal

pub returns-in-Some-clause-gone : goal.returns-in-Some-clause-gone
returns-in-Some-clause-gone g c =
    let t = c.args.self.now in
    let at : point_at c.args.points.now t.machine c.args.rank ≡ Some c.in-Some.point =
    ap (λ (m : MachineState). point_at c.args.points.now m c.args.rank) (sym c.machine.ensures.value) ∙ sym c.point_of.ensures
    ∙ c.in-Some.is in
    let on = point_at-enabled c.args.points.now t.machine c.args.rank c.in-Some.point at in
    IsGoing-stop c.args.points.now t (stopped c.in-Some.point) c.requires.going
    (some_items t.made (rw c.made.ensures.value at (sym c.is_empty.ensures ∙ c.if-not-is_empty.true)))
    (address_stop-at c.args.points.now t.machine c.args.rank c.requires.sound c.requires.below on ∙ ap (option_map stopped) at)

pub returns-in_err-run_to_point-clause-gone : goal.returns-in_err-run_to_point-clause-gone
returns-in_err-run_to_point-clause-gone g c =
    let p = err_from_is_err_and c.from_residual.result c.from_residual.ensures.1 in
    let t = c.args.self.now in
    let made = c.in_err-run_to_point.ensures.err in
    let free : is_enabled t.machine (Step c.args.rank) ≡ true → t.made ≢ [] → address_stop c.args.points.now t.machine ≡ None =
    (λ on some. elim c.if-not-is_empty.branch [
      | then-not-is_empty+in_default w ↦ address_stop-at c.args.points.now t.machine c.args.rank c.requires.sound c.requires.below on
          ∙ ap (option_map stopped) (ap (λ (m : MachineState). point_at c.args.points.now m c.args.rank) (sym w.machine.ensures.value)
          ∙ sym w.point_of.ensures ∙ w.in_default.is)
      | else-not-is_empty w ↦
          absurd (some (no_items t.made (rw c.made.ensures.value at (sym c.is_empty.ensures ∙ w.if-not-is_empty.false))))
    ]) in
    rw p.1 (node-refused c.args.points.now t c.args.rank c.made.ensures.trace c.requires.sound c.requires.open c.requires.below
    c.run_to_point.new.self c.settings-limit.result.limit made.0 made.1 made.2
    (λ on. IsGoing-way c.args.points.now t c.made.ensures.trace c.requires.going (free on)))

pub returns-clause-gone : goal.returns-clause-gone
returns-clause-gone g c =
    let t = c.args.self.now in
    let made = c.in_ok-run_to_point.ensures.ok in
    let all : c.settings-limit.result.limit ≡ t.machine.settings.limit = ap (λ (s : Settings). s.limit) c.settings-limit.ensures.value
    ∙ ap (λ (m : MachineState). m.settings.limit) c.machine-2.ensures.value in
    let free : is_enabled t.machine (Step c.args.rank) ≡ true → t.made ≢ [] → address_stop c.args.points.now t.machine ≡ None =
    (λ on some. elim c.if-not-is_empty.branch [
      | then-not-is_empty+in_default w ↦ address_stop-at c.args.points.now t.machine c.args.rank c.requires.sound c.requires.below on
          ∙ ap (option_map stopped) (ap (λ (m : MachineState). point_at c.args.points.now m c.args.rank) (sym w.machine.ensures.value)
          ∙ sym w.point_of.ensures ∙ w.in_default.is)
      | else-not-is_empty w ↦
          absurd (some (no_items t.made (rw c.made.ensures.value at (sym c.is_empty.ensures ∙ w.if-not-is_empty.false))))
    ]) in
    node-gone c.args.points.now t c.args.rank c.made.ensures.trace c.requires.sound c.requires.open c.requires.below c.run_to_point.new.self
    c.settings-limit.result.limit c.in_ok-run_to_point.field-0 all made.0 made.1
    AllocError c.point_of-2.result
    (c.point_of-2.ensures ∙ ap (λ (m : MachineState). point_at c.args.points.now m c.args.rank) c.machine-3.ensures.value)
    c.requires.going (λ on. IsGoing-way c.args.points.now t c.made.ensures.trace c.requires.going (free on))

pub returns-clause-whole : goal.returns-clause-whole
returns-clause-whole g c is =
    let t = c.args.self.now in
    let made = c.in_ok-run_to_point.ensures.ok in
    let all : c.settings-limit.result.limit ≡ t.machine.settings.limit = ap (λ (s : Settings). s.limit) c.settings-limit.ensures.value
    ∙ ap (λ (m : MachineState). m.settings.limit) c.machine-2.ensures.value in
    let none : c.point_of-2.result ≡ None = cc in
    node-whole c.args.points.now t c.args.rank c.made.ensures.trace c.requires.sound c.requires.open c.requires.below
    c.run_to_point.new.self c.settings-limit.result.limit c.in_ok-run_to_point.field-0 all made.0 made.1
    (ap (λ (m : MachineState). point_at c.args.points.now m c.args.rank) (sym c.machine-3.ensures.value) ∙ sym c.point_of-2.ensures ∙ none)

pub returns-clause-order : goal.returns-clause-order
returns-clause-order g c is =
    let t = c.args.self.now in
    let made = c.in_ok-run_to_point.ensures.ok in
    let all : c.settings-limit.result.limit ≡ t.machine.settings.limit = ap (λ (s : Settings). s.limit) c.settings-limit.ensures.value
    ∙ ap (λ (m : MachineState). m.settings.limit) c.machine-2.ensures.value in
    node-order c.args.points.now t c.args.rank c.made.ensures.trace c.requires.sound c.requires.open c.requires.below
    c.run_to_point.new.self c.settings-limit.result.limit c.in_ok-run_to_point.field-0 all made.0 made.1 c.requires.order
