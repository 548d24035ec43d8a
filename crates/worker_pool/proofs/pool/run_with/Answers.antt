-- Each superstep leads on toward the same end and adds a row of costs; a refusal ends the run after it, and is answered.
use Rattle.std.proofs.Common.{◌≡◌, not, [], Err, inl, inr, refl, sym, ap, ◌∙◌, arith, rules}
use Rattle.std.specs.Prelude.{is_some}
use Rattle.std.proofs.lemmas.Bool.{false≢true}
use Rattle.std.proofs.lemmas.Result.{err_from_is_err_and}
use Rattle.machine_core.specs.declared.event.Event.TheVariants.{Turn}
use Rattle.machine_core.specs.Events.{event}
use Rattle.machine_core.specs.Machine.{MachineState}
use Rattle.machine_core.specs.Turn.{with_phases, end_of}
use Rattle.machine_core.proofs.Ends.{end_of-superstep, end_of-there}
use Rattle.machine_core.proofs.Options.{none_from}
use Rattle.machine_core.proofs.Steps.{after-nil}
use Rattle.machine_core.proofs.Supersteps.{superstep-made, rows_left}
use Rattle.worker_pool.specs.declared.error.PoolError.TheVariants.{NoWorker}
use Rattle.worker_pool.proofs.Phases.{LeadsTo-on, LeadsTo-turn, LeadsTo-length, LeadsWithoutTurn-outcome, HaveCome-over}
use Rattle.worker_pool.proofs.Landings.{on_err_from}
use Rattle.worker_pool.proofs.Refusals.{none_of, one_of, is_so, is_not}
use Rattle.worker_pool.proofs.pool.run_with.Goals as goal

pub loop-landings-init : goal.loop-landings-init
loop-landings-init g c =
    record { so_far = ([], sym (after-nil c.args.machine.now)); same_end = refl; over = λ over. refl; no_worker = λ refused. absurd cc }

pub loop-landings-smaller : goal.loop-landings-smaller
loop-landings-smaller g c =
    let m = c.loop-landings.machine in
    let phases : c.make_local_parts-parts.new.machine ≡ with_phases m =
    c.make_local_parts-parts.ensures.ok (none_of _ _ (sym c.and.ensures.memory ∙ (c.in_ok-answer.ensures.ok.0 refl).1)).1 in
    let open_yet = ap is_some (sym c.outcome.ensures.value) ∙ c.is_none.ensures ∙ ap not c.loop-landings-test.true in
    let turned : c.make_turn-turned.new.machine ≡ event (with_phases m) Turn =
    c.make_turn-turned.ensures.ok (is_so _ c.if-not-turned.false) ∙ ap (λ (x : MachineState). event x Turn) phases in
    rows_left m c.outcome.ensures.sound open_yet c.make_turn-turned.new.machine
    (superstep-made m c.outcome.ensures.sound open_yet c.make_turn-turned.new.machine turned)

pub loop-landings-preserved : goal.loop-landings-preserved
loop-landings-preserved g c =
    let m = c.loop-landings.machine in
    let phases : c.make_local_parts-parts.new.machine ≡ with_phases m =
    c.make_local_parts-parts.ensures.ok (none_of _ _ (sym c.and.ensures.memory ∙ (c.in_ok-answer.ensures.ok.0 refl).1)).1 in
    let so_far = c.loop-landings.invariant in
    let sound = c.outcome.ensures.sound in
    let open_yet = ap is_some (sym c.outcome.ensures.value) ∙ c.is_none.ensures ∙ ap not c.loop-landings-test.true in
    let turned : c.make_turn-turned.new.machine ≡ event (with_phases m) Turn =
    c.make_turn-turned.ensures.ok (is_so _ c.if-not-turned.false) ∙ ap (λ (x : MachineState). event x Turn) phases in
    let before =
    LeadsTo-on c.args.machine.now m c.make_local_parts-parts.new.machine so_far.so_far c.make_local_parts-parts.ensures.stepped in
    record {
      so_far =
          LeadsTo-turn c.args.machine.now c.make_local_parts-parts.new.machine c.make_turn-turned.new.machine before
          (c.make_turn-turned.ensures.ok (is_so _ c.if-not-turned.false));
      same_end =
          ap end_of (superstep-made m sound open_yet c.make_turn-turned.new.machine turned) ∙ end_of-superstep m sound ∙ so_far.same_end;
      over = λ over. absurd (false≢true (sym open_yet ∙ ap (λ (x : MachineState). is_some x.outcome) (so_far.over over) ∙ over));
      no_worker = λ refused.
          let wanted = c.make_turn-turned.ensures.no_worker refused in
          let same = LeadsTo-length c.args.machine.now c.make_local_parts-parts.new.machine before in
          (wanted.0, omega (arith, wanted.1, same));
    }

pub returns-in_err-check_numbers : goal.returns-in_err-check_numbers
returns-in_err-check_numbers g c =
    let p = err_from_is_err_and c.from_residual.result c.from_residual.ensures.1 in
    record {
      refusals = record { bad_workers = search rules; bad_slice = search rules; unchanged = search rules; no_worker = search rules };
      ok = search rules;
      ended = search rules;
      err = rw p.1 ([], sym (after-nil c.args.machine.now));
      over = search rules;
      stopped = search rules;
      going = search rules;
    }

pub returns-in_err-answer : goal.returns-in_err-answer
returns-in_err-answer g c =
    let p = err_from_is_err_and c.from_residual-in_err-answer.result c.from_residual-in_err-answer.ensures.1 in
    let same = LeadsTo-length c.args.machine.now c.loop-landings.machine c.loop-landings.invariant.so_far in
    let open_yet = ap is_some (sym c.outcome.ensures.value) ∙ c.is_none.ensures ∙ ap not c.loop-landings-test.true in
    record {
      refusals = record {
        bad_workers = search rules;
        bad_slice = search rules;
        unchanged = search rules;
        no_worker = λ refused.
            let worker : c.in_err-answer.field-0.0 ≡ NoWorker = cc (p.1, p.2, refused) in
            let lacks = c.in_err-answer.ensures.no_worker.0 (ap Err worker) in
            elim (one_of _ _ (sym c.and.ensures.thread ∙ lacks)) [
              | inl before ↦ c.loop-landings.invariant.no_worker before
              | inr now ↦ let wanted = c.make_local_parts-parts.ensures.no_worker now in (wanted.0, omega (arith, wanted.1, same))
            ];
      };
      ok = search rules;
      ended = search rules;
      err =
          rw p.1 (LeadsTo-on c.args.machine.now c.loop-landings.machine c.make_local_parts-parts.new.machine
          c.loop-landings.invariant.so_far
          c.make_local_parts-parts.ensures.stepped);
      over = search rules;
      stopped = search rules;
      going = λ within.
          rw p.1 (LeadsWithoutTurn-outcome c.loop-landings.machine c.make_local_parts-parts.new.machine
          c.make_local_parts-parts.ensures.stepped
          ∙ none_from c.loop-landings.machine.outcome (λ x is. false≢true (sym open_yet ∙ ap is_some is)));
    }

pub returns-then-not-turned : goal.returns-then-not-turned
returns-then-not-turned g c =
    let phases =
    LeadsTo-on c.args.machine.now c.loop-landings.machine c.make_local_parts-parts.new.machine c.loop-landings.invariant.so_far
    c.make_local_parts-parts.ensures.stepped in
    let same = LeadsTo-length c.args.machine.now c.make_local_parts-parts.new.machine phases in
    let off = c.make_turn-turned.ensures.err (is_not _ c.if-not-turned.true) in
    record {
      refusals = record {
        bad_workers = search rules;
        bad_slice = search rules;
        unchanged = search rules;
        no_worker = λ refused.
            let wanted = c.make_turn-turned.ensures.no_worker (c.answer-then-not-turned.ensures.no_worker.0 refused) in
            (wanted.0, omega (arith, wanted.1, same));
      };
      ok = search rules;
      ended = search rules;
      err = on_err_from c.answer-then-not-turned.result (phases.0, off.0 ∙ phases.1);
      over = search rules;
      stopped = search rules;
      going = search rules;
    }

pub returns : goal.returns
returns g c =
    let over = ap is_some (sym c.outcome.ensures.value) ∙ c.is_none.ensures ∙ ap not c.loop-landings-test.false in
    record {
      refusals = record { bad_workers = search rules; bad_slice = search rules; unchanged = search rules; no_worker = search rules };
      ok = sym (end_of-there c.loop-landings.machine over) ∙ c.loop-landings.invariant.same_end;
      ended = search rules;
      err = search rules;
      over = search rules;
      stopped = λ within. HaveCome-over c.loop-landings.machine c.outcome.ensures.sound over;
      going = search rules;
    }
