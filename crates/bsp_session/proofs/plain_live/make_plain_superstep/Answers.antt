-- What a superstep added to the output is what its nodes wrote.
use Rattle.std.proofs.Common.{◌≡◌, ◌∙◌, false, refl, ap}
use Rattle.std.specs.Prelude.{is_some}
use Rattle.std.proofs.lemmas.Result.{err_from_is_err_and}
use Rattle.machine_core.specs.declared.event.Event.TheVariants.{Turn}
use Rattle.machine_core.specs.Events.{event}
use Rattle.machine_core.specs.Machine.{MachineState}
use Rattle.machine_core.specs.Turn.{with_phases, written}
use Rattle.machine_core.proofs.Supersteps.{superstep-made}
use Rattle.bsp_session.proofs.Supersteps.{added-part, output-made, reaches}
use Rattle.bsp_session.proofs.plain_live.make_plain_superstep.Goals as goal

pub returns-in_err-run_phase_plain-clause-err : goal.returns-in_err-run_phase_plain-clause-err
returns-in_err-run_phase_plain-clause-err g c =
    let p = err_from_is_err_and c.from_residual.result c.from_residual.ensures.1 in
    rw (p.1, p.2) (record { bytes = refl; failures = refl })

pub returns-in_err-turn-clause-err : goal.returns-in_err-turn-clause-err
returns-in_err-turn-clause-err g c =
    let p = err_from_is_err_and c.from_residual-in_err-turn.result c.from_residual-in_err-turn.ensures.1 in
    rw (p.1, p.2) (record { bytes = refl; failures = refl })

pub returns-clause-made : goal.returns-clause-made
returns-clause-made g c =
    let m = c.args.machine.now in
    superstep-made m c.requires.sound (rw c.requires.going refl) c.turn.new.self
    (c.in_ok-turn.ensures.ok ∙ ap (λ (x : MachineState). event x Turn) c.in_ok-run_phase_plain.ensures.ok)

pub slice_bounds-write_at_once-count : goal.slice_bounds-write_at_once-count
slice_bounds-write_at_once-count g c =
    let m = c.args.machine.now in
    let open_yet : is_some m.outcome ≡ false = rw c.requires.going refl in
    let made = superstep-made m c.requires.sound open_yet c.turn.new.self
    (c.in_ok-turn.ensures.ok ∙ ap (λ (x : MachineState). event x Turn) c.in_ok-run_phase_plain.ensures.ok) in
    let is = output-made m c.turn.new.self c.output-before.result.now c.output.result.now made open_yet c.output-before.ensures
    c.output.ensures in
    reaches c.output-before.result.now c.output.result.now (written (with_phases m).nodes) is

pub slice_bounds-write_at_once-start : goal.slice_bounds-write_at_once-start
slice_bounds-write_at_once-start g c =
    let m = c.args.machine.now in
    let open_yet : is_some m.outcome ≡ false = rw c.requires.going refl in
    let made = superstep-made m c.requires.sound open_yet c.turn.new.self
    (c.in_ok-turn.ensures.ok ∙ ap (λ (x : MachineState). event x Turn) c.in_ok-run_phase_plain.ensures.ok) in
    let is = output-made m c.turn.new.self c.output-before.result.now c.output.result.now made open_yet c.output-before.ensures
    c.output.ensures in
    reaches c.output-before.result.now c.output.result.now (written (with_phases m).nodes) is

pub returns-in_err-write_at_once-clause-err : goal.returns-in_err-write_at_once-clause-err
returns-in_err-write_at_once-clause-err g c =
    let p = err_from_is_err_and c.from_residual-in_err-write_at_once.result c.from_residual-in_err-write_at_once.ensures.1 in
    let m = c.args.machine.now in
    let open_yet : is_some m.outcome ≡ false = rw c.requires.going refl in
    let made = superstep-made m c.requires.sound open_yet c.turn.new.self
    (c.in_ok-turn.ensures.ok ∙ ap (λ (x : MachineState). event x Turn) c.in_ok-run_phase_plain.ensures.ok) in
    let is = output-made m c.turn.new.self c.output-before.result.now c.output.result.now made open_yet c.output-before.ensures
    c.output.ensures in
    rw (p.1, p.2) (
      rw (← added-part c.output-before.result.now c.output.result.now (written (with_phases m).nodes) is)
          c.in_err-write_at_once.ensures.err,
      c.in_err-write_at_once.ensures.fault,
    )

pub returns-clause-written : goal.returns-clause-written
returns-clause-written g c =
    let m = c.args.machine.now in
    let open_yet : is_some m.outcome ≡ false = rw c.requires.going refl in
    let made = superstep-made m c.requires.sound open_yet c.turn.new.self
    (c.in_ok-turn.ensures.ok ∙ ap (λ (x : MachineState). event x Turn) c.in_ok-run_phase_plain.ensures.ok) in
    let is = output-made m c.turn.new.self c.output-before.result.now c.output.result.now made open_yet c.output-before.ensures
    c.output.ensures in
    rw (← added-part c.output-before.result.now c.output.result.now (written (with_phases m).nodes) is) c.in_ok-write_at_once.ensures.ok
