-- The turn follows a phase in which all have stopped: it goes on the way of `go`, or ends it with the machine's outcome.
use Rattle.std.proofs.Common.{◌≡◌, sym, ap, ◌∙◌}
use Rattle.std.proofs.lemmas.Result.{err_from_is_err_and}
use Rattle.machine_core.specs.Machine.{MachineState}
use Rattle.bsp_debug.specs.declared.point.Point.TheVariants.{Superstep}
use Rattle.bsp_debug.specs.Made.{events_of}
use Rattle.bsp_debug.specs.Points.{is_set}
use Rattle.bsp_debug.specs.Trace.{Traced, turned}
use Rattle.bsp_debug.proofs.Entries.{EndsBelow-turn}
use Rattle.bsp_debug.proofs.Going.{turn-way, turn-finished, turn-stopped, turn-going, turn-made}
use Rattle.bsp_debug.proofs.Ways.{IsWay-part}
use Rattle.bsp_debug.proofs.trace.Trace.go_through_turn.Goals as goal

pub returns-in_err-turn-clause-gone : goal.returns-in_err-turn-clause-gone
returns-in_err-turn-clause-gone g c =
    let p = err_from_is_err_and c.from_residual.result c.from_residual.ensures.1 in
    let t = c.args.self.now in
    rw p.1 (rw c.in_err-turn.ensures.err (IsWay-part c.args.points.now t.start t.machine (events_of t.made)
    (turn-way c.args.points.now t c.turn.ensures.was_trace c.requires.open c.requires.stopped c.requires.going)))

pub returns-in-Some-clause-gone : goal.returns-in-Some-clause-gone
returns-in-Some-clause-gone g c =
    let t = c.args.self.now in
    let made = turn-made t c.requires.open c.requires.stopped c.in_ok-turn.field-0 c.turn.new.self c.in_ok-turn.ensures.value
    c.in_ok-turn.ensures.ok in
    rw made (turn-finished c.args.points.now t c.turn.ensures.was_trace c.requires.open c.requires.stopped c.in-Some.outcome
    c.requires.going
    (ap (λ (x : Traced). x.machine.outcome) (sym made) ∙ ap (λ (m : MachineState). m.outcome) (sym c.machine.ensures.value)
    ∙ sym c.outcome.ensures.value ∙ c.in-Some.is))

pub returns-in-Some-clause-order : goal.returns-in-Some-clause-order
returns-in-Some-clause-order g c =
    let t = c.args.self.now in
    rw (turn-made t c.requires.open c.requires.stopped c.in_ok-turn.field-0 c.turn.new.self c.in_ok-turn.ensures.value
    c.in_ok-turn.ensures.ok) (EndsBelow-turn 0 t.made)

pub returns-then-has-clause-gone : goal.returns-then-has-clause-gone
returns-then-has-clause-gone g c =
    let t = c.args.self.now in
    let made = turn-made t c.requires.open c.requires.stopped c.in_ok-turn.field-0 c.turn.new.self c.in_ok-turn.ensures.value
    c.in_ok-turn.ensures.ok in
    let number : c.superstep.result ≡ (turned t).machine.exchanges =
    c.superstep.ensures ∙ ap (λ (m : MachineState). m.exchanges) c.machine-2.ensures.value
    ∙ ap (λ (x : Traced). x.machine.exchanges) made in
    rw (made, number) (turn-stopped c.args.points.now t c.turn.ensures.was_trace c.requires.open c.requires.stopped c.requires.going
    (ap (λ (x : Traced). x.machine.outcome) (sym made) ∙ ap (λ (m : MachineState). m.outcome) (sym c.machine.ensures.value)
    ∙ sym c.outcome.ensures.value ∙ c.in_default.is)
    (ap (λ k. is_set c.args.points.now (Superstep k)) (sym number) ∙ sym c.has.ensures ∙ c.if-has.true))

pub returns-then-has-clause-order : goal.returns-then-has-clause-order
returns-then-has-clause-order g c =
    let t = c.args.self.now in
    rw (turn-made t c.requires.open c.requires.stopped c.in_ok-turn.field-0 c.turn.new.self c.in_ok-turn.ensures.value
    c.in_ok-turn.ensures.ok) (EndsBelow-turn 0 t.made)

pub returns-clause-gone : goal.returns-clause-gone
returns-clause-gone g c =
    let t = c.args.self.now in
    let made = turn-made t c.requires.open c.requires.stopped c.in_ok-turn.field-0 c.turn.new.self c.in_ok-turn.ensures.value
    c.in_ok-turn.ensures.ok in
    let number : c.superstep.result ≡ (turned t).machine.exchanges =
    c.superstep.ensures ∙ ap (λ (m : MachineState). m.exchanges) c.machine-2.ensures.value
    ∙ ap (λ (x : Traced). x.machine.exchanges) made in
    rw made (turn-going c.args.points.now t c.turn.ensures.was_trace c.requires.open c.requires.stopped c.requires.going
    (ap (λ (x : Traced). x.machine.outcome) (sym made) ∙ ap (λ (m : MachineState). m.outcome) (sym c.machine.ensures.value)
    ∙ sym c.outcome.ensures.value ∙ c.in_default.is)
    (ap (λ k. is_set c.args.points.now (Superstep k)) (sym number) ∙ sym c.has.ensures ∙ c.if-has.false))

pub returns-clause-order : goal.returns-clause-order
returns-clause-order g c =
    let t = c.args.self.now in
    rw (turn-made t c.requires.open c.requires.stopped c.in_ok-turn.field-0 c.turn.new.self c.in_ok-turn.ensures.value
    c.in_ok-turn.ensures.ok) (EndsBelow-turn 0 t.made)
