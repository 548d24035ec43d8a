-- Superstep by superstep, up to the outcome.
use Rattle.std.proofs.Common.{◌≡◌, ◌∙◌, ◌++◌, List, ℕ, not, ap, refl, sym, append-nil, string_bytes}
use Rattle.std.specs.Prelude.{is_some}
use Rattle.std.proofs.lemmas.Result.{err_from_is_err_and}
use Rattle.machine_core.specs.declared.event.Event.TheVariants.{Turn}
use Rattle.machine_core.specs.declared.settings.Settings.{Settings}
use Rattle.machine_core.specs.Events.{event}
use Rattle.machine_core.specs.Machine.{MachineState}
use Rattle.machine_core.specs.Turn.{end_of, with_phases, superstep}
use Rattle.machine_core.proofs.Ends.{end_of-superstep, end_of-there, settings-superstep}
use Rattle.machine_core.proofs.Supersteps.{IsOnPhase-phases, IsWalked-on, IsWalked-superstep, superstep-made, rows_left}
use Rattle.machine_core.proofs.Walks.{walked-zero}
use Rattle.step_counts.specs.Counts.{lines_of}
use Rattle.step_counts.proofs.Rest.{lines_appended, lines_over}
use Rattle.step_counts.proofs.Sums.{AllCountsAreTicks-supersteps}
use Rattle.step_counts.proofs.runs.run.Goals as goal

pub returns-in_err-text-clause-err : goal.returns-in_err-text-clause-err
returns-in_err-text-clause-err g c =
    let p = err_from_is_err_and c.from_residual.result c.from_residual.ensures.1 in
    rw p.1 (0, sym (walked-zero c.args.machine.now))

pub returns-in_err-text-clause-ticks : goal.returns-in_err-text-clause-ticks
returns-in_err-text-clause-ticks g c = λ k. AllCountsAreTicks-supersteps k c.args.machine.now c.settings.ensures.sound
    c.recall_word_pcs.ensures

pub loop-machine-init : goal.loop-machine-init
loop-machine-init g c = record {
  so_far = (0, sym (walked-zero c.args.machine.now));
  same_end = refl;
  lines = refl;
  memory = c.new-table.ensures.memory ∙ ap (λ (s : Settings). s.memory) c.settings.ensures.value;
}

pub returns-in_err-count_parts-clause-err : goal.returns-in_err-count_parts-clause-err
returns-in_err-count_parts-clause-err g c =
    let p = err_from_is_err_and c.from_residual-in_err-count_parts.result c.from_residual-in_err-count_parts.ensures.1 in
    rw p.1 (IsWalked-on c.args.machine.now c.loop-machine.machine c.count_parts.new.machine c.loop-machine.invariant.so_far
    c.in_err-count_parts.ensures.err)

pub returns-in_err-count_parts-clause-ticks : goal.returns-in_err-count_parts-clause-ticks
returns-in_err-count_parts-clause-ticks g c = λ k. AllCountsAreTicks-supersteps k c.args.machine.now c.settings.ensures.sound
    c.recall_word_pcs.ensures

pub loop-machine-smaller : goal.loop-machine-smaller
loop-machine-smaller g c =
    let m = c.loop-machine.machine in
    let sound = c.outcome.ensures.sound in
    let open_yet = ap is_some (sym c.outcome.ensures.value) ∙ c.is_none.ensures ∙ ap not c.loop-machine-test.true in
    let turned : c.turn.new.self ≡ event (with_phases m) Turn = c.in_ok-turn.ensures.ok ∙ ap
    (λ (x : MachineState). event x Turn) c.in_ok-count_parts.ensures.ok in
    rows_left m sound open_yet c.turn.new.self (superstep-made m sound open_yet c.turn.new.self turned)

pub loop-machine-preserved : goal.loop-machine-preserved
loop-machine-preserved g c =
    let m = c.loop-machine.machine in
    let so_far = c.loop-machine.invariant in
    let sound = c.outcome.ensures.sound in
    let open_yet = ap is_some (sym c.outcome.ensures.value) ∙ c.is_none.ensures ∙ ap not c.loop-machine-test.true in
    let turned : c.turn.new.self ≡ event (with_phases m) Turn = c.in_ok-turn.ensures.ok ∙ ap
    (λ (x : MachineState). event x Turn) c.in_ok-count_parts.ensures.ok in
    let made : c.turn.new.self ≡ superstep m = superstep-made m sound open_yet c.turn.new.self turned in
    record {
      so_far = IsWalked-superstep c.args.machine.now m c.turn.new.self sound open_yet so_far.so_far turned;
      same_end = ap end_of made ∙ end_of-superstep m sound ∙ so_far.same_end;
      lines = lines_appended m c.turn.new.self (string_bytes c.loop-machine.text)
          (string_bytes c.count_parts.new.text) _ sound open_yet made c.in_ok-count_parts.ensures.text so_far.lines;
      memory = c.count_parts.ensures.memory ∙ so_far.memory ∙ sym
          (ap (λ (x : MachineState). x.settings.memory) made ∙ ap (λ (s : Settings). s.memory) (settings-superstep m));
    }

pub returns-in_err-turn-clause-err : goal.returns-in_err-turn-clause-err
returns-in_err-turn-clause-err g c =
    let p = err_from_is_err_and c.from_residual-in_err-turn.result c.from_residual-in_err-turn.ensures.1 in
    let m = c.loop-machine.machine in
    let phases = IsWalked-on c.args.machine.now m (with_phases m) c.loop-machine.invariant.so_far
    (IsOnPhase-phases m c.outcome.ensures.sound) in
    rw p.1 (phases.0, c.in_err-turn.ensures.err ∙ c.in_ok-count_parts.ensures.ok ∙ phases.1)

pub returns-in_err-turn-clause-ticks : goal.returns-in_err-turn-clause-ticks
returns-in_err-turn-clause-ticks g c = λ k. AllCountsAreTicks-supersteps k c.args.machine.now c.settings.ensures.sound
    c.recall_word_pcs.ensures

pub returns-clause-ok : goal.returns-clause-ok
returns-clause-ok g c =
    let over = ap is_some (sym c.outcome.ensures.value) ∙ c.is_none.ensures ∙ ap not c.loop-machine-test.false in
    record { end = sym (end_of-there c.loop-machine.machine over) ∙ c.loop-machine.invariant.same_end; over = over }

pub returns-clause-ticks : goal.returns-clause-ticks
returns-clause-ticks g c = λ k. AllCountsAreTicks-supersteps k c.args.machine.now c.settings.ensures.sound c.recall_word_pcs.ensures

pub returns-clause-counts : goal.returns-clause-counts
returns-clause-counts g c =
    let over = ap is_some (sym c.outcome.ensures.value) ∙ c.is_none.ensures ∙ ap not c.loop-machine-test.false in
    sym (append-nil (string_bytes c.loop-machine.text))
    ∙ ap (λ (ls : List ℕ). string_bytes c.loop-machine.text ++ ls) (sym (lines_over c.loop-machine.machine over))
    ∙ c.loop-machine.invariant.lines
    ∙ ap (λ (bs : List ℕ). bs ++ lines_of c.args.machine.now) c.in_ok-text.ensures.ok
