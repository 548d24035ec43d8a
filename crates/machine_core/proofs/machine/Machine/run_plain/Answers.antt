-- Each superstep walks on toward the same end and adds a row of costs; a refusal stops on the way, and at the outcome it is the end.
use Rattle.std.proofs.Common.{◌≡◌, not, refl, sym, ap, subst, ◌∙◌}
use Rattle.std.specs.Prelude.{is_some}
use Rattle.std.proofs.lemmas.Result.{IfOk-from_err, err_from_is_err_and}
use Rattle.machine_core.specs.declared.event.Event.TheVariants.{Turn}
use Rattle.machine_core.specs.Events.{event}
use Rattle.machine_core.specs.Machine.{MachineState}
use Rattle.machine_core.specs.Sound.{IsSoundMachine}
use Rattle.machine_core.specs.Turn.{end_of, with_phases}
use Rattle.machine_core.proofs.Ends.{end_of-superstep, end_of-there}
use Rattle.machine_core.proofs.Supersteps.{IsOnPhase-phases, IsWalked-on, IsWalked-superstep, superstep-made, rows_left}
use Rattle.machine_core.proofs.Walks.{walked-zero}
use Rattle.machine_core.proofs.machine.Machine.run_plain.Goals as goal

pub loop-self-init : goal.loop-self-init
loop-self-init g c = record { so_far = (0, sym (walked-zero c.args.self.now)); same_end = refl }

pub returns-in_err-run_phase_plain-clause-err : goal.returns-in_err-run_phase_plain-clause-err
returns-in_err-run_phase_plain-clause-err g c =
    let p = err_from_is_err_and c.from_residual.result c.from_residual.ensures.1 in
    rw p.1 (IsWalked-on c.args.self.now c.loop-self.self c.run_phase_plain.new.self c.loop-self.invariant.so_far
    c.in_err-run_phase_plain.ensures.err)

pub loop-self-smaller : goal.loop-self-smaller
loop-self-smaller g c =
    let m = c.loop-self.self in
    let sound = subst IsSoundMachine c.self.view_is c.self.invariant in
    let open_yet = ap (λ (x : MachineState). is_some x.outcome) (sym c.self.view_is) ∙ c.is_none.ensures ∙ ap not c.loop-self-test.true in
    let turned : c.turn.new.self ≡ event (with_phases m) Turn =
    c.in_ok-turn.ensures.ok ∙ ap (λ (x : MachineState). event x Turn) c.in_ok-run_phase_plain.ensures.ok in
    rows_left m sound open_yet c.turn.new.self (superstep-made m sound open_yet c.turn.new.self turned)

pub loop-self-preserved : goal.loop-self-preserved
loop-self-preserved g c =
    let m = c.loop-self.self in
    let sound = subst IsSoundMachine c.self.view_is c.self.invariant in
    let open_yet = ap (λ (x : MachineState). is_some x.outcome) (sym c.self.view_is) ∙ c.is_none.ensures ∙ ap not c.loop-self-test.true in
    let turned : c.turn.new.self ≡ event (with_phases m) Turn =
    c.in_ok-turn.ensures.ok ∙ ap (λ (x : MachineState). event x Turn) c.in_ok-run_phase_plain.ensures.ok in
    record {
      so_far = IsWalked-superstep c.args.self.now m c.turn.new.self sound open_yet c.loop-self.invariant.so_far turned;
      same_end =
          ap end_of (superstep-made m sound open_yet c.turn.new.self turned) ∙ end_of-superstep m sound ∙ c.loop-self.invariant.same_end;
    }

pub returns-in_err-turn-clause-err : goal.returns-in_err-turn-clause-err
returns-in_err-turn-clause-err g c =
    let p = err_from_is_err_and c.from_residual-in_err-turn.result c.from_residual-in_err-turn.ensures.1 in
    let m = c.loop-self.self in
    let sound = subst IsSoundMachine c.self.view_is c.self.invariant in
    let phases = IsWalked-on c.args.self.now m (with_phases m) c.loop-self.invariant.so_far (IsOnPhase-phases m sound) in
    rw p.1 (phases.0, c.in_err-turn.ensures.err ∙ c.in_ok-run_phase_plain.ensures.ok ∙ phases.1)

pub returns-clause-ok : goal.returns-clause-ok
returns-clause-ok g c =
    let m = c.loop-self.self in
    let over = ap (λ (x : MachineState). is_some x.outcome) (sym c.self.view_is) ∙ c.is_none.ensures ∙ ap not c.loop-self-test.false in
    record { end = sym (end_of-there m over) ∙ c.loop-self.invariant.same_end; over = over }

pub returns-in_err-turn-clause-ok : goal.returns-in_err-turn-clause-ok
returns-in_err-turn-clause-ok g c = IfOk-from_err c.from_residual-in_err-turn.result _ c.from_residual-in_err-turn.ensures.0

pub returns-in_err-run_phase_plain-clause-ok : goal.returns-in_err-run_phase_plain-clause-ok
returns-in_err-run_phase_plain-clause-ok g c = IfOk-from_err c.from_residual.result _ c.from_residual.ensures.0

pub returns-in_err-run_phase_plain-clause-going : goal.returns-in_err-run_phase_plain-clause-going
returns-in_err-run_phase_plain-clause-going g c =
    let p = err_from_is_err_and c.from_residual.result c.from_residual.ensures.1 in
    rw p.1 c.in_err-run_phase_plain.ensures.going
