-- Superstep by superstep, up to the outcome.
use Rattle.std.proofs.Common.{◌≡◌, ◌∙◌, ◌++◌, List, ℕ, not, ap, refl, sym, subst, string_bytes}
use Rattle.std.specs.Prelude.{is_some, true}
use Rattle.std.proofs.lemmas.Result.{err_from_is_err_and}
use Rattle.machine_core.specs.declared.event.Event.TheVariants.{Turn}
use Rattle.machine_core.specs.Events.{event, is_enabled}
use Rattle.machine_core.specs.Machine.{MachineState}
use Rattle.machine_core.specs.Sound.{IsSoundMachine}
use Rattle.machine_core.specs.Turn.{end_of, with_phases, superstep}
use Rattle.machine_core.proofs.Ends.{end_of-superstep, end_of-there}
use Rattle.machine_core.proofs.Resume.{phases-sound}
use Rattle.machine_core.proofs.Supersteps.{IsOnPhase-phases, IsWalked-on, IsWalked-superstep, superstep-made, rows_left, turn-enabled}
use Rattle.machine_core.proofs.Walks.{walked-zero}
use Rattle.exposed_runs.specs.declared.note.Note.{Note}
use Rattle.exposed_runs.specs.Notes.{all_notes}
use Rattle.exposed_runs.specs.Runs.{AreTurnLines}
use Rattle.exposed_runs.proofs.Rest.{tells-all, tells-nothing, tells-superstep}
use Rattle.exposed_runs.proofs.runs.run.Goals as goal

pub returns-in_err-text-clause-err : goal.returns-in_err-text-clause-err
returns-in_err-text-clause-err g c =
    let p = err_from_is_err_and c.from_residual.result c.from_residual.ensures.1 in
    rw p.1 (0, sym (walked-zero c.args.machine.now))

pub loop-alloc-init : goal.loop-alloc-init
loop-alloc-init g c = record {
  so_far = (0, sym (walked-zero c.args.machine.now));
  same_end = refl;
  told = tells-nothing c.args.machine.now (string_bytes c.in_ok-text.text);
}

pub returns-in_err-notes-clause-err : goal.returns-in_err-notes-clause-err
returns-in_err-notes-clause-err g c =
    let p = err_from_is_err_and c.from_residual-in_err-notes.result c.from_residual-in_err-notes.ensures.1 in
    rw p.1 (IsWalked-on c.args.machine.now c.loop-alloc.machine c.note_parts.new.machine c.loop-alloc.invariant.so_far
    c.in_err-notes.ensures.err)

pub write_turn-requires-clause-sound : goal.write_turn-requires-clause-sound
write_turn-requires-clause-sound g c = subst IsSoundMachine (sym c.in_ok-notes.ensures.ok) (phases-sound c.loop-alloc.machine c.outcome.ensures.sound)

pub write_turn-requires-clause-enabled : goal.write_turn-requires-clause-enabled
write_turn-requires-clause-enabled g c =
    let open_yet = ap is_some (sym c.outcome.ensures.value) ∙ c.is_none.ensures ∙ ap not c.loop-alloc-test.true in
    subst (λ (x : MachineState). is_enabled x Turn ≡ true) (sym c.in_ok-notes.ensures.ok)
    (turn-enabled c.loop-alloc.machine c.outcome.ensures.sound open_yet)

pub loop-alloc-smaller : goal.loop-alloc-smaller
loop-alloc-smaller g c =
    let m = c.loop-alloc.machine in
    let sound = c.outcome.ensures.sound in
    let open_yet = ap is_some (sym c.outcome.ensures.value) ∙ c.is_none.ensures ∙ ap not c.loop-alloc-test.true in
    let turned : c.turn.new.self ≡ event (with_phases m) Turn =
    c.in_ok-turn.ensures.ok ∙ ap (λ (x : MachineState). event x Turn) c.in_ok-notes.ensures.ok in
    rows_left m sound open_yet c.turn.new.self (superstep-made m sound open_yet c.turn.new.self turned)

pub loop-alloc-preserved : goal.loop-alloc-preserved
loop-alloc-preserved g c =
    let m = c.loop-alloc.machine in
    let so_far = c.loop-alloc.invariant in
    let sound = c.outcome.ensures.sound in
    let open_yet = ap is_some (sym c.outcome.ensures.value) ∙ c.is_none.ensures ∙ ap not c.loop-alloc-test.true in
    let turned : c.turn.new.self ≡ event (with_phases m) Turn =
    c.in_ok-turn.ensures.ok ∙ ap (λ (x : MachineState). event x Turn) c.in_ok-notes.ensures.ok in
    let made : c.turn.new.self ≡ superstep m = superstep-made m sound open_yet c.turn.new.self turned in
    let added = c.in_ok-write_turn.ensures in
    let noted : c.deref.result.now ≡ all_notes m = c.deref.ensures.value ∙ c.in_ok-notes.ensures.notes in
    let lines : AreTurnLines (with_phases m) (all_notes m) added.0 =
    subst (λ (x : MachineState). AreTurnLines x (all_notes m) added.0) c.in_ok-notes.ensures.ok
    (subst (λ (ns : List Note). AreTurnLines c.note_parts.new.machine ns added.0) noted added.1) in
    record {
      so_far = IsWalked-superstep c.args.machine.now m c.turn.new.self sound open_yet so_far.so_far turned;
      same_end = ap end_of made ∙ end_of-superstep m sound ∙ so_far.same_end;
      told =
          tells-superstep c.args.machine.now m c.turn.new.self (string_bytes c.in_ok-text.text) (string_bytes c.loop-alloc.text)
          (string_bytes c.write_turn.new.text) open_yet made (added.0, lines, added.2) so_far.told;
    }

pub returns-in_err-write_turn-clause-err : goal.returns-in_err-write_turn-clause-err
returns-in_err-write_turn-clause-err g c =
    let p = err_from_is_err_and c.from_residual-in_err-write_turn.result c.from_residual-in_err-write_turn.ensures.1 in
    let m = c.loop-alloc.machine in
    let phases = IsWalked-on c.args.machine.now m (with_phases m) c.loop-alloc.invariant.so_far (IsOnPhase-phases m c.outcome.ensures.sound) in
    rw p.1 (phases.0, c.in_ok-notes.ensures.ok ∙ phases.1)

pub returns-in_err-turn-clause-err : goal.returns-in_err-turn-clause-err
returns-in_err-turn-clause-err g c =
    let p = err_from_is_err_and c.from_residual-in_err-turn.result c.from_residual-in_err-turn.ensures.1 in
    let m = c.loop-alloc.machine in
    let phases = IsWalked-on c.args.machine.now m (with_phases m) c.loop-alloc.invariant.so_far (IsOnPhase-phases m c.outcome.ensures.sound) in
    rw p.1 (phases.0, c.in_err-turn.ensures.err ∙ c.in_ok-notes.ensures.ok ∙ phases.1)

pub returns-clause-ok : goal.returns-clause-ok
returns-clause-ok g c =
    let over = ap is_some (sym c.outcome.ensures.value) ∙ c.is_none.ensures ∙ ap not c.loop-alloc-test.false in
    record { end = sym (end_of-there c.loop-alloc.machine over) ∙ c.loop-alloc.invariant.same_end; over = over }

pub returns-clause-told : goal.returns-clause-told
returns-clause-told g c =
    let over = ap is_some (sym c.outcome.ensures.value) ∙ c.is_none.ensures ∙ ap not c.loop-alloc-test.false in
    let told =
    tells-all c.args.machine.now c.loop-alloc.machine (string_bytes c.in_ok-text.text) (string_bytes c.loop-alloc.text) over
    c.loop-alloc.invariant.told in
    (told.0, told.1, told.2 ∙ ap (λ (bs : List ℕ). bs ++ told.0) c.in_ok-text.ensures.ok)
