-- Each superstep appends its lines, so that the profile and the lines that are left are the whole, also where the run breaks off.
use Rattle.std.proofs.Common.{◌≡◌, ◌++◌, ℕ, List, not, refl, sym, ap, ◌∙◌, append-nil}
use Rattle.std.specs.Prelude.{is_some}
use Rattle.std.proofs.lemmas.Bool.{false≢true}
use Rattle.std.proofs.lemmas.Result.{err_from_is_err_and}
use Rattle.machine_core.specs.declared.event.Event.TheVariants.{Turn}
use Rattle.machine_core.specs.Events.{event, is_enabled}
use Rattle.machine_core.specs.Machine.{MachineState}
use Rattle.machine_core.specs.Turn.{turned, with_phases, superstep, end_of}
use Rattle.machine_core.specs.Walk.{walk}
use Rattle.machine_core.proofs.Ends.{end_of-superstep, end_of-there}
use Rattle.machine_core.proofs.Options.{none_from}
use Rattle.machine_core.proofs.Sound.{superstep-open}
use Rattle.machine_core.proofs.Steps.{event-enabled}
use Rattle.machine_core.proofs.Supersteps.{IsOnPhase-phases, IsWalked-on, IsWalked-superstep, turn-enabled, rows_left}
use Rattle.machine_core.proofs.Walks.{walked-zero}
use Rattle.worker_pool.proofs.Phases.{phases_reached, LeadsWithoutTurn-outcome}
use Rattle.bsp_profile.specs.Lines.{lines_of}
use Rattle.bsp_profile.proofs.Rest.{lines_appended, lines_over, lines_phase}
use Rattle.bsp_profile.proofs.runs.run_plain.Goals as goal

pub loop-machine-init : goal.loop-machine-init
loop-machine-init g c = record {
  so_far = (0, sym (walked-zero c.args.machine.now));
  same_end = refl;
  lines = refl;
  over = λ over. (refl, refl);
}

pub returns-in_err-run_phase_plain-clause-err : goal.returns-in_err-run_phase_plain-clause-err
returns-in_err-run_phase_plain-clause-err g c =
    let p = err_from_is_err_and c.from_residual.result c.from_residual.ensures.1 in
    rw p.1 (IsWalked-on c.args.machine.now c.loop-machine.machine c.run_phase_plain.new.self c.loop-machine.invariant.so_far
    c.in_err-run_phase_plain.ensures.err)

pub returns-in_err-run_phase_plain-clause-lines_left : goal.returns-in_err-run_phase_plain-clause-lines_left
returns-in_err-run_phase_plain-clause-lines_left g c =
    let m = c.loop-machine.machine in
    let on = c.in_err-run_phase_plain.ensures.err in
    ap (λ (ls : List ℕ). c.loop-machine.profile ++ ls)
    (lines_phase m c.run_phase_plain.new.self c.outcome.ensures.sound (walk on.made m, on.steps, on.is))
    ∙ c.loop-machine.invariant.lines

pub turn-requires : goal.turn-requires
turn-requires g c =
    let open_yet = ap is_some (sym c.outcome.ensures.value) ∙ c.is_none.ensures ∙ ap not c.loop-machine-test.true in
    ap (λ (x : MachineState). is_enabled x Turn) c.in_ok-run_phase_plain.ensures.ok
    ∙ turn-enabled c.loop-machine.machine c.outcome.ensures.sound open_yet

pub loop-machine-smaller : goal.loop-machine-smaller
loop-machine-smaller g c =
    let m = c.loop-machine.machine in
    let open_yet = ap is_some (sym c.outcome.ensures.value) ∙ c.is_none.ensures ∙ ap not c.loop-machine-test.true in
    let made : c.turn.new.machine ≡ superstep m =
    c.in_ok-turn.ensures.machine ∙ ap turned c.in_ok-run_phase_plain.ensures.ok ∙ sym (superstep-open m open_yet) in
    rows_left m c.outcome.ensures.sound open_yet c.turn.new.machine made

pub loop-machine-preserved : goal.loop-machine-preserved
loop-machine-preserved g c =
    let m = c.loop-machine.machine in
    let so_far = c.loop-machine.invariant in
    let sound = c.outcome.ensures.sound in
    let open_yet = ap is_some (sym c.outcome.ensures.value) ∙ c.is_none.ensures ∙ ap not c.loop-machine-test.true in
    let turns : c.turn.new.machine ≡ turned (with_phases m) =
    c.in_ok-turn.ensures.machine ∙ ap turned c.in_ok-run_phase_plain.ensures.ok in
    let made : c.turn.new.machine ≡ superstep m = turns ∙ sym (superstep-open m open_yet) in
    let event_made : c.turn.new.machine ≡ event (with_phases m) Turn =
    turns ∙ sym (event-enabled (with_phases m) Turn (turn-enabled m sound open_yet)) in
    record {
      so_far = IsWalked-superstep c.args.machine.now m c.turn.new.machine sound open_yet so_far.so_far event_made;
      same_end = ap end_of made ∙ end_of-superstep m sound ∙ so_far.same_end;
      lines =
          ap (λ (x : MachineState). c.turn.new.self ++ lines_of x) made
          ∙ lines_appended m c.run_phase_plain.new.self c.loop-machine.profile c.turn.new.self c.args.profile.now
          (lines_of c.args.machine.now) sound open_yet
          c.in_ok-run_phase_plain.ensures.ok c.in_ok-turn.ensures.profile so_far.lines;
      over = λ over. absurd (false≢true (sym open_yet ∙ ap (λ (x : MachineState). is_some x.outcome) (so_far.over over).0 ∙ over));
    }

pub returns-in_err-turn-clause-err : goal.returns-in_err-turn-clause-err
returns-in_err-turn-clause-err g c =
    let p = err_from_is_err_and c.from_residual-in_err-turn.result c.from_residual-in_err-turn.ensures.1 in
    let m = c.loop-machine.machine in
    let phases = IsWalked-on c.args.machine.now m (with_phases m) c.loop-machine.invariant.so_far
    (IsOnPhase-phases m c.outcome.ensures.sound) in
    rw p.1 (phases.0, c.in_err-turn.ensures.same_machine ∙ c.in_ok-run_phase_plain.ensures.ok ∙ phases.1)

pub returns-in_err-turn-clause-going : goal.returns-in_err-turn-clause-going
returns-in_err-turn-clause-going g c =
    let p = err_from_is_err_and c.from_residual-in_err-turn.result c.from_residual-in_err-turn.ensures.1 in
    let m = c.loop-machine.machine in
    let open_yet = ap is_some (sym c.outcome.ensures.value) ∙ c.is_none.ensures ∙ ap not c.loop-machine-test.true in
    rw p.1
    (ap (λ (x : MachineState). x.outcome) (c.in_err-turn.ensures.same_machine ∙ c.in_ok-run_phase_plain.ensures.ok)
    ∙ LeadsWithoutTurn-outcome m (with_phases m) (phases_reached m c.outcome.ensures.sound)
    ∙ none_from m.outcome (λ x is. false≢true (sym open_yet ∙ ap is_some is)))

pub returns-in_err-turn-clause-lines_left : goal.returns-in_err-turn-clause-lines_left
returns-in_err-turn-clause-lines_left g c =
    let m = c.loop-machine.machine in
    let sound = c.outcome.ensures.sound in
    ap (λ (bs : List ℕ). bs ++ lines_of c.turn.new.machine) c.in_err-turn.ensures.same_profile
    ∙ ap (λ (x : MachineState). c.loop-machine.profile ++ lines_of x)
    (c.in_err-turn.ensures.same_machine ∙ c.in_ok-run_phase_plain.ensures.ok)
    ∙ ap (λ (ls : List ℕ). c.loop-machine.profile ++ ls) (lines_phase m (with_phases m) sound (phases_reached m sound))
    ∙ c.loop-machine.invariant.lines

pub returns-clause-ok : goal.returns-clause-ok
returns-clause-ok g c =
    let over = ap is_some (sym c.outcome.ensures.value) ∙ c.is_none.ensures ∙ ap not c.loop-machine-test.false in
    record { end = sym (end_of-there c.loop-machine.machine over) ∙ c.loop-machine.invariant.same_end; over = over }

pub returns-clause-profile : goal.returns-clause-profile
returns-clause-profile g c =
    let over = ap is_some (sym c.outcome.ensures.value) ∙ c.is_none.ensures ∙ ap not c.loop-machine-test.false in
    sym (append-nil c.loop-machine.profile) ∙ ap (λ (ls : List ℕ). c.loop-machine.profile ++ ls)
    (sym (lines_over c.loop-machine.machine over)) ∙ c.loop-machine.invariant.lines
