-- Each superstep appends its lines, so that the profile and the lines that are left are the whole, also where the run breaks off.
use Rattle.std.proofs.Common.{◌≡◌, ◌++◌, ℕ, List, not, [], Err, refl, sym, ap, ◌∙◌, arith, rules, append-nil}
use Rattle.std.specs.Prelude.{is_some}
use Rattle.std.proofs.lemmas.Bool.{false≢true}
use Rattle.std.proofs.lemmas.Result.{err_from_is_err_and}
use Rattle.machine_core.specs.declared.event.Event.TheVariants.{Turn}
use Rattle.machine_core.specs.Events.{event, is_enabled}
use Rattle.machine_core.specs.Machine.{MachineState}
use Rattle.machine_core.specs.Turn.{turned, with_phases, superstep, end_of}
use Rattle.machine_core.proofs.Ends.{end_of-superstep, end_of-there}
use Rattle.machine_core.proofs.Options.{none_from}
use Rattle.machine_core.proofs.Sound.{superstep-open}
use Rattle.machine_core.proofs.Steps.{after-nil, event-enabled}
use Rattle.machine_core.proofs.Supersteps.{turn-enabled, rows_left}
use Rattle.worker_pool.specs.declared.error.PoolError.{PoolError}
use Rattle.worker_pool.specs.declared.error.PoolError.TheVariants.{NoWorker}
use Rattle.worker_pool.proofs.Phases.{phases_reached, LeadsTo-on, LeadsTo-turn, LeadsTo-length, LeadsWithoutTurn-outcome, HaveCome-over}
use Rattle.bsp_profile.specs.Lines.{lines_of}
use Rattle.bsp_profile.proofs.Rest.{lines_appended, lines_over, lines_phase}
use Rattle.bsp_profile.proofs.runs.run.Goals as goal

pub loop-machine-init : goal.loop-machine-init
loop-machine-init g c = record {
  so_far = ([], sym (after-nil c.args.machine.now));
  same_end = refl;
  lines = refl;
  over = λ over. (refl, refl);
}

pub returns-in_err-run_phase_sparing-clause-lines_left : goal.returns-in_err-run_phase_sparing-clause-lines_left
returns-in_err-run_phase_sparing-clause-lines_left g c =
    ap (λ (ls : List ℕ). c.loop-machine.profile ++ ls)
    (lines_phase c.loop-machine.machine c.run_phase_sparing.new.machine c.outcome.ensures.sound c.in_err-run_phase_sparing.ensures.err)
    ∙ c.loop-machine.invariant.lines

pub turn-requires : goal.turn-requires
turn-requires g c =
    let open_yet = ap is_some (sym c.outcome.ensures.value) ∙ c.is_none.ensures ∙ ap not c.loop-machine-test.true in
    ap (λ (x : MachineState). is_enabled x Turn) c.in_ok-run_phase_sparing.ensures.ok
    ∙ turn-enabled c.loop-machine.machine c.outcome.ensures.sound open_yet

pub loop-machine-smaller : goal.loop-machine-smaller
loop-machine-smaller g c =
    let m = c.loop-machine.machine in
    let open_yet = ap is_some (sym c.outcome.ensures.value) ∙ c.is_none.ensures ∙ ap not c.loop-machine-test.true in
    let made : c.turn.new.machine ≡ superstep m =
    c.in_ok-turn.ensures.machine ∙ ap turned c.in_ok-run_phase_sparing.ensures.ok ∙ sym (superstep-open m open_yet) in
    rows_left m c.outcome.ensures.sound open_yet c.turn.new.machine made

pub loop-machine-preserved : goal.loop-machine-preserved
loop-machine-preserved g c =
    let m = c.loop-machine.machine in
    let so_far = c.loop-machine.invariant in
    let sound = c.outcome.ensures.sound in
    let open_yet = ap is_some (sym c.outcome.ensures.value) ∙ c.is_none.ensures ∙ ap not c.loop-machine-test.true in
    let turns : c.turn.new.machine ≡ turned (with_phases m) =
    c.in_ok-turn.ensures.machine ∙ ap turned c.in_ok-run_phase_sparing.ensures.ok in
    let made : c.turn.new.machine ≡ superstep m = turns ∙ sym (superstep-open m open_yet) in
    let event_made : c.turn.new.machine ≡ event (with_phases m) Turn =
    turns ∙ sym (event-enabled (with_phases m) Turn (turn-enabled m sound open_yet)) in
    record {
      so_far =
          LeadsTo-turn c.args.machine.now (with_phases m) c.turn.new.machine
          (LeadsTo-on c.args.machine.now m (with_phases m) so_far.so_far (phases_reached m sound)) event_made;
      same_end = ap end_of made ∙ end_of-superstep m sound ∙ so_far.same_end;
      lines =
          ap (λ (x : MachineState). c.turn.new.self ++ lines_of x) made
          ∙ lines_appended m c.run_phase_sparing.new.machine c.loop-machine.profile c.turn.new.self c.args.profile.now
          (lines_of c.args.machine.now) sound open_yet
          c.in_ok-run_phase_sparing.ensures.ok c.in_ok-turn.ensures.profile so_far.lines;
      over = λ over. absurd (false≢true (sym open_yet ∙ ap (λ (x : MachineState). is_some x.outcome) (so_far.over over).0 ∙ over));
    }

pub returns-in_err-turn-clause-lines_left : goal.returns-in_err-turn-clause-lines_left
returns-in_err-turn-clause-lines_left g c =
    let m = c.loop-machine.machine in
    let sound = c.outcome.ensures.sound in
    ap (λ (bs : List ℕ). bs ++ lines_of c.turn.new.machine) c.in_err-turn.ensures.same_profile
    ∙ ap (λ (x : MachineState). c.loop-machine.profile ++ lines_of x)
    (c.in_err-turn.ensures.same_machine ∙ c.in_ok-run_phase_sparing.ensures.ok)
    ∙ ap (λ (ls : List ℕ). c.loop-machine.profile ++ ls) (lines_phase m (with_phases m) sound (phases_reached m sound))
    ∙ c.loop-machine.invariant.lines

pub returns-clause-profile : goal.returns-clause-profile
returns-clause-profile g c =
    let over = ap is_some (sym c.outcome.ensures.value) ∙ c.is_none.ensures ∙ ap not c.loop-machine-test.false in
    sym (append-nil c.loop-machine.profile) ∙ ap (λ (ls : List ℕ). c.loop-machine.profile ++ ls)
    (sym (lines_over c.loop-machine.machine over)) ∙ c.loop-machine.invariant.lines

pub returns-in_err-check_numbers-clause-machine : goal.returns-in_err-check_numbers-clause-machine
returns-in_err-check_numbers-clause-machine g c =
    let p = err_from_is_err_and c.from_residual.result c.from_residual.ensures.1 in
    record {
      refusals = record { bad_workers = search rules; bad_slice = search rules; unchanged = search rules; no_worker = search rules };
      ok = search rules;
      ended = search rules;
      err = rw p.1 ([], sym (after-nil c.args.machine.now));
      over = search rules;
      stopped = search rules;
      going = search rules;
    }

pub returns-in_err-run_phase_sparing-clause-machine : goal.returns-in_err-run_phase_sparing-clause-machine
returns-in_err-run_phase_sparing-clause-machine g c =
    let p = err_from_is_err_and c.from_residual-in_err-run_phase_sparing.result c.from_residual-in_err-run_phase_sparing.ensures.1 in
    let open_yet = ap is_some (sym c.outcome.ensures.value) ∙ c.is_none.ensures ∙ ap not c.loop-machine-test.true in
    record {
      refusals = record {
        bad_workers = search rules;
        bad_slice = search rules;
        unchanged = search rules;
        no_worker = λ refused.
            let own : c.in_err-run_phase_sparing.field-0.0 ≡ NoWorker = cc (p.1, p.2, refused) in
            let wanted =
            c.run_phase_sparing.ensures.refusals.no_worker (c.in_err-run_phase_sparing.was ∙ ap (λ (e : PoolError). Err e) own) in
            (wanted.0, omega (arith, wanted.1, LeadsTo-length c.args.machine.now c.loop-machine.machine c.loop-machine.invariant.so_far));
      };
      ok = search rules;
      ended = search rules;
      err =
          rw p.1 (LeadsTo-on c.args.machine.now c.loop-machine.machine c.run_phase_sparing.new.machine c.loop-machine.invariant.so_far
          c.in_err-run_phase_sparing.ensures.err);
      over = search rules;
      stopped = search rules;
      going = λ within.
          rw p.1 (LeadsWithoutTurn-outcome c.loop-machine.machine c.run_phase_sparing.new.machine c.in_err-run_phase_sparing.ensures.err
          ∙ none_from c.loop-machine.machine.outcome (λ x is. false≢true (sym open_yet ∙ ap is_some is)));
    }

pub returns-in_err-turn-clause-machine : goal.returns-in_err-turn-clause-machine
returns-in_err-turn-clause-machine g c =
    let p = err_from_is_err_and c.from_residual-in_err-turn.result c.from_residual-in_err-turn.ensures.1 in
    let m = c.loop-machine.machine in
    let reached =
    LeadsTo-on c.args.machine.now m (with_phases m) c.loop-machine.invariant.so_far (phases_reached m c.outcome.ensures.sound) in
    record {
      refusals = record { bad_workers = search rules; bad_slice = search rules; unchanged = search rules; no_worker = search rules };
      ok = search rules;
      ended = search rules;
      err = rw p.1 (reached.0, c.in_err-turn.ensures.same_machine ∙ c.in_ok-run_phase_sparing.ensures.ok ∙ reached.1);
      over = search rules;
      stopped = search rules;
      going = search rules;
    }

pub returns-clause-machine : goal.returns-clause-machine
returns-clause-machine g c =
    let over = ap is_some (sym c.outcome.ensures.value) ∙ c.is_none.ensures ∙ ap not c.loop-machine-test.false in
    record {
      refusals = record { bad_workers = search rules; bad_slice = search rules; unchanged = search rules; no_worker = search rules };
      ok = sym (end_of-there c.loop-machine.machine over) ∙ c.loop-machine.invariant.same_end;
      ended = search rules;
      err = search rules;
      over = search rules;
      stopped = λ within. HaveCome-over c.loop-machine.machine c.outcome.ensures.sound over;
      going = search rules;
    }
