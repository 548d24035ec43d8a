-- Each pass goes on where the last one ended: through a phase, which may stop at a point, and through a turn, which may be the end.
use Rattle.std.proofs.Common.{◌≡◌, inl, false, Some, None, Ok, refl, ap, subst, ◌∙◌}
use Rattle.std.specs.Prelude.{is_some}
use Rattle.std.proofs.lemmas.Result.{err_from_is_err_and}
use Rattle.machine_core.specs.declared.event.Event.TheVariants.{Turn}
use Rattle.machine_core.specs.Events.{event, some_runs}
use Rattle.machine_core.specs.Machine.{MachineState}
use Rattle.machine_core.specs.Turn.{with_phases}
use Rattle.machine_core.proofs.Resume.{phases-stopped}
use Rattle.machine_core.proofs.Supersteps.{superstep-made, rows_left}
use Rattle.bsp_debug.specs.Made.{events_of}
use Rattle.bsp_debug.specs.Reply.{answer, stopped}
use Rattle.bsp_debug.specs.Stops.{Goes, IsOnTheWay}
use Rattle.bsp_debug.proofs.trace.Trace.go.Goals as goal

pub loop-point-init : goal.loop-point-init
loop-point-init g c = record {
  going = inl c.requires.fresh;
  outcome = c.requires.open;
  order = rw c.requires.fresh tt;
  start = refl;
}

pub go_through_phase-requires-clause-going : goal.go_through_phase-requires-clause-going
go_through_phase-requires-clause-going g c = c.loop-point.invariant.going

pub go_through_phase-requires-clause-open : goal.go_through_phase-requires-clause-open
go_through_phase-requires-clause-open g c = c.loop-point.invariant.outcome

pub go_through_phase-requires-clause-order : goal.go_through_phase-requires-clause-order
go_through_phase-requires-clause-order g c = c.loop-point.invariant.order

pub returns-in_err-point-clause-start : goal.returns-in_err-point-clause-start
returns-in_err-point-clause-start g c = c.go_through_phase.ensures.start ∙ c.loop-point.invariant.start

pub returns-in_err-point-clause-err : goal.returns-in_err-point-clause-err
returns-in_err-point-clause-err g c =
    let p = err_from_is_err_and c.from_residual.result c.from_residual.ensures.1 in
    let start = c.go_through_phase.ensures.start ∙ c.loop-point.invariant.start in
    let gone = rw c.in_err-point.was at c.go_through_phase.ensures.gone in
    rw p.1 (subst (λ (m : MachineState). IsOnTheWay c.args.points.now m (events_of c.go_through_phase.new.self.made)) start gone)

pub returns-in-Some-clause-start : goal.returns-in-Some-clause-start
returns-in-Some-clause-start g c = c.go_through_phase.ensures.start ∙ c.loop-point.invariant.start

pub returns-in-Some-clause-ok : goal.returns-in-Some-clause-ok
returns-in-Some-clause-ok g c =
    let start = c.go_through_phase.ensures.start ∙ c.loop-point.invariant.start in
    let found : c.go_through_phase.result ≡ Ok (Some c.in-Some.point) = c.in_ok-point.was ∙ ap Ok c.in-Some.is in
    let gone = rw found at c.go_through_phase.ensures.gone in
    subst (λ (m : MachineState). Goes c.args.points.now m (events_of c.go_through_phase.new.self.made) (stopped c.in-Some.point)) start gone

pub go_through_turn-requires-clause-open : goal.go_through_turn-requires-clause-open
go_through_turn-requires-clause-open g c =
    let none : c.go_through_phase.result ≡ Ok None = c.in_ok-point.was ∙ ap Ok c.in_default.is in
    ap (λ (m : MachineState). m.outcome) (c.go_through_phase.ensures.whole none) ∙ c.loop-point.invariant.outcome

pub go_through_turn-requires-clause-stopped : goal.go_through_turn-requires-clause-stopped
go_through_turn-requires-clause-stopped g c =
    let none : c.go_through_phase.result ≡ Ok None = c.in_ok-point.was ∙ ap Ok c.in_default.is in
    ap (λ (m : MachineState). some_runs m.nodes) (c.go_through_phase.ensures.whole none)
    ∙ phases-stopped c.loop-point.self.machine c.go_through_phase.ensures.sound

pub returns-in_err-stop-clause-start : goal.returns-in_err-stop-clause-start
returns-in_err-stop-clause-start g c = c.go_through_turn.ensures.start ∙ c.go_through_phase.ensures.start ∙ c.loop-point.invariant.start

pub returns-in_err-stop-clause-err : goal.returns-in_err-stop-clause-err
returns-in_err-stop-clause-err g c =
    let p = err_from_is_err_and c.from_residual-in_err-stop.result c.from_residual-in_err-stop.ensures.1 in
    let start = c.go_through_turn.ensures.start ∙ c.go_through_phase.ensures.start ∙ c.loop-point.invariant.start in
    let gone = rw c.in_err-stop.was at c.go_through_turn.ensures.gone in
    rw p.1 (subst (λ (m : MachineState). IsOnTheWay c.args.points.now m (events_of c.go_through_turn.new.self.made)) start gone)

pub returns-in-Some-2-clause-start : goal.returns-in-Some-2-clause-start
returns-in-Some-2-clause-start g c = c.go_through_turn.ensures.start ∙ c.go_through_phase.ensures.start ∙ c.loop-point.invariant.start

pub returns-in-Some-2-clause-ok : goal.returns-in-Some-2-clause-ok
returns-in-Some-2-clause-ok g c =
    let start = c.go_through_turn.ensures.start ∙ c.go_through_phase.ensures.start ∙ c.loop-point.invariant.start in
    let found : c.go_through_turn.result ≡ Ok (Some c.in-Some-2.stop) = c.in_ok-stop.was ∙ ap Ok c.in-Some-2.is in
    let gone = rw found at c.go_through_turn.ensures.gone in
    subst (λ (m : MachineState). Goes c.args.points.now m (events_of c.go_through_turn.new.self.made) (answer c.in-Some-2.stop)) start gone

pub loop-point-smaller : goal.loop-point-smaller
loop-point-smaller g c =
    let m = c.loop-point.self.machine in
    let sound = c.go_through_phase.ensures.sound in
    let open_yet : is_some m.outcome ≡ false = ap is_some c.loop-point.invariant.outcome in
    let none : c.go_through_phase.result ≡ Ok None = c.in_ok-point.was ∙ ap Ok c.in_default.is in
    let turned : c.go_through_turn.new.self.machine ≡ event (with_phases m) Turn =
    c.in_ok-stop.ensures.made ∙ ap (λ (x : MachineState). event x Turn) (c.go_through_phase.ensures.whole none) in
    rows_left m sound open_yet c.go_through_turn.new.self.machine
    (superstep-made m sound open_yet c.go_through_turn.new.self.machine turned)

pub loop-point-preserved : goal.loop-point-preserved
loop-point-preserved g c =
    let none : c.go_through_turn.result ≡ Ok None = c.in_ok-stop.was ∙ ap Ok c.in_default-2.is in
    record {
      going = rw none at c.go_through_turn.ensures.gone;
      outcome = c.go_through_turn.ensures.open none;
      order = c.in_ok-stop.ensures.order;
      start = c.go_through_turn.ensures.start ∙ c.go_through_phase.ensures.start ∙ c.loop-point.invariant.start;
    }
