-- The local parts of the ranks, one after another.
use Rattle.std.proofs.Common.{◌≡◌, ◌<◌, ◌∙◌, ap, length, arith, subst, sym}
use Rattle.std.proofs.lemmas.Result.{err_from_is_err_and}
use Rattle.machine_core.specs.declared.settings.Settings.{Settings}
use Rattle.machine_core.proofs.Phased.{IsOnPhase-part}
use Rattle.machine_core.proofs.Sound.{length-nodes}
use Rattle.exposed_runs.proofs.Parting.{Parting, Parting-done, Parting-more, Parting-notes, Parting-start}
use Rattle.exposed_runs.proofs.parts.note_parts.Goals as goal

pub loop-rank-init : goal.loop-rank-init
loop-rank-init g c =
    subst (Parting c.args.machine.now c.args.machine.now 0) (sym c.new-notes.ensures.items)
    (Parting-start c.args.machine.now c.settings-rank-end.ensures.sound)

pub returns-in_err-note_part-clause-err : goal.returns-in_err-note_part-clause-err
returns-in_err-note_part-clause-err g c =
    let p = err_from_is_err_and c.from_residual.result c.from_residual.ensures.1 in
    let made = c.note_part.ensures.made in
    rw p.1 (IsOnPhase-part c.args.machine.now c.loop-rank.machine c.note_part.new.machine c.loop-rank.rank
    c.loop-rank.invariant.phasing made.0 made.1)

pub loop-rank-preserved : goal.loop-rank-preserved
loop-rank-preserved g c =
    let old = c.args.machine.now in
    let sound = c.settings-rank-end.ensures.sound in
    let made = c.note_part.ensures.made in
    let end = ap (λ (s : Settings). s.nodes) c.settings-rank-end.ensures.value in
    let within : c.loop-rank.rank < length old.nodes = omega (arith, c.loop-rank-test.true, end, length-nodes old sound) in
    Parting-more old c.loop-rank.machine c.note_part.new.machine c.loop-rank.rank c.loop-rank.notes.items c.note_part.new.notes.items sound
    c.loop-rank.invariant made.0 within made.1 c.in_ok-note_part.ensures.stopped c.in_ok-note_part.ensures.notes

pub returns-clause-ok : goal.returns-clause-ok
returns-clause-ok g c =
    let end = ap (λ (s : Settings). s.nodes) c.settings-rank-end.ensures.value in
    Parting-done c.args.machine.now c.loop-rank.machine c.loop-rank.rank c.loop-rank.notes.items c.settings-rank-end.ensures.sound
    c.loop-rank.invariant (omega (arith, end, c.loop-rank-test.false))

pub returns-clause-notes : goal.returns-clause-notes
returns-clause-notes g c =
    let end = ap (λ (s : Settings). s.nodes) c.settings-rank-end.ensures.value in
    Parting-notes c.args.machine.now c.loop-rank.machine c.loop-rank.rank c.loop-rank.notes.items c.settings-rank-end.ensures.sound
    c.loop-rank.invariant (omega (arith, end, c.loop-rank-test.false))
