-- The steps of the rank, one by one.
use Rattle.std.proofs.Common.{◌<◌, ◌∙◌, sym, subst}
use Rattle.machine_core.specs.Machine.{MachineState}
use Rattle.exposed_runs.proofs.Noting.{Noting-done, Noting-made, Noting-more, Noting-start, fewer-left, left_at, still-sound}
use Rattle.exposed_runs.proofs.parts.note_part.Goals as goal

pub loop-machine-init : goal.loop-machine-init
loop-machine-init g c = Noting-start c.args.machine.now c.args.rank c.args.notes.now.items

pub returns-in_err-note_step-clause-made : goal.returns-in_err-note_step-clause-made
returns-in_err-note_step-clause-made g c =
    let made = c.note_step.ensures.made in
    Noting-made c.args.machine.now c.loop-machine.machine c.args.rank c.args.notes.now.items c.loop-machine.notes.items c.requires.sound
    c.loop-machine.invariant made.0 c.note_step.new.machine made.1

pub loop-machine-smaller : goal.loop-machine-smaller
loop-machine-smaller g c =
    let m = c.loop-machine.machine in
    let sound =
    still-sound c.args.machine.now m c.args.rank c.args.notes.now.items c.loop-machine.notes.items c.requires.sound
    c.loop-machine.invariant in
    subst (λ (x : MachineState). left_at x c.args.rank < left_at m c.args.rank) (sym c.in_ok-note_step.ensures.ok)
    (fewer-left m c.args.rank sound (sym c.runs.ensures ∙ c.loop-machine-test.true))

pub loop-machine-preserved : goal.loop-machine-preserved
loop-machine-preserved g c =
    Noting-more c.args.machine.now c.loop-machine.machine c.args.rank c.args.notes.now.items c.loop-machine.notes.items c.requires.sound
    c.loop-machine.invariant c.note_step.new.machine c.note_step.new.notes.items (sym c.runs.ensures ∙ c.loop-machine-test.true)
    c.in_ok-note_step.ensures.ok c.in_ok-note_step.ensures.notes

pub returns-clause-made : goal.returns-clause-made
returns-clause-made g c = (c.loop-machine.invariant.steps, c.loop-machine.invariant.is)

pub returns-clause-notes : goal.returns-clause-notes
returns-clause-notes g c =
    Noting-done c.args.machine.now c.loop-machine.machine c.args.rank c.args.notes.now.items c.loop-machine.notes.items c.requires.sound
    c.loop-machine.invariant (sym c.runs.ensures ∙ c.loop-machine-test.false)
