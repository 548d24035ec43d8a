-- The local parts of the ranks, one after another.
use Rattle.std.proofs.Common.{◌<◌, ◌∙◌, ◌++◌, List, ℕ, ap, length, refl, sym, arith, append-nil, string_bytes}
use Rattle.std.proofs.lemmas.Result.{err_from_is_err_and}
use Rattle.machine_core.specs.declared.settings.Settings.{Settings}
use Rattle.machine_core.proofs.Phased.{IsOnPhase-part}
use Rattle.machine_core.proofs.Sound.{length-nodes}
use Rattle.step_counts.specs.Counts.{node_lines}
use Rattle.step_counts.proofs.Lines.{next_piece}
use Rattle.step_counts.proofs.Parting.{Parting-done, Parting-more, Parting-start, lines-at, lines-done, there-is}
use Rattle.step_counts.proofs.parts.count_parts.Goals as goal

pub loop-rank-init : goal.loop-rank-init
loop-rank-init g c = record {
  parting = Parting-start c.args.machine.now c.settings-rank-end.ensures.sound;
  text = sym (append-nil (string_bytes c.args.text.now));
  memory = refl;
}

pub returns-in_err-count_part-clause-err : goal.returns-in_err-count_part-clause-err
returns-in_err-count_part-clause-err g c =
    let p = err_from_is_err_and c.from_residual.result c.from_residual.ensures.1 in
    let made = c.count_part.ensures.made in
    rw p.1 (IsOnPhase-part c.args.machine.now c.loop-rank.machine c.count_part.new.machine c.loop-rank.rank
    c.loop-rank.invariant.parting.phasing made.0 made.1)

pub loop-rank-preserved : goal.loop-rank-preserved
loop-rank-preserved g c =
    let old = c.args.machine.now in
    let m = c.loop-rank.machine in
    let rank = c.loop-rank.rank in
    let so_far = c.loop-rank.invariant in
    let sound = c.settings-rank-end.ensures.sound in
    let made = c.count_part.ensures.made in
    let end = ap (λ (s : Settings). s.nodes) c.settings-rank-end.ensures.value in
    let within : rank < length old.nodes = omega (arith, c.loop-rank-test.true, end, length-nodes old sound) in
    let node = there-is old.nodes rank within in
    record {
      parting = Parting-more old m c.count_part.new.machine rank so_far.parting made.0 made.1 c.in_ok-count_part.ensures.stopped;
      text =
          next_piece (node_lines old) old.nodes rank node.0 (string_bytes c.args.text.now) (string_bytes c.loop-rank.text)
          (string_bytes c.count_part.new.text) node.1 so_far.text
          (c.in_ok-count_part.ensures.text ∙ ap (λ (ls : List ℕ). string_bytes c.loop-rank.text ++ ls)
          (lines-at old m c.count_part.new.machine rank so_far.parting node.0 sound node.1));
      memory = c.count_part.ensures.memory ∙ so_far.memory;
    }

pub returns-clause-ok : goal.returns-clause-ok
returns-clause-ok g c =
    let end = ap (λ (s : Settings). s.nodes) c.settings-rank-end.ensures.value in
    Parting-done c.args.machine.now c.loop-rank.machine c.loop-rank.rank c.settings-rank-end.ensures.sound c.loop-rank.invariant.parting
    (omega (arith, end, c.loop-rank-test.false))

pub returns-clause-text : goal.returns-clause-text
returns-clause-text g c =
    let end = ap (λ (s : Settings). s.nodes) c.settings-rank-end.ensures.value in
    lines-done c.args.machine.now c.loop-rank.machine c.loop-rank.rank c.settings-rank-end.ensures.sound c.loop-rank.invariant.parting
    (string_bytes c.args.text.now) (string_bytes c.loop-rank.text)
    (omega (arith, end, c.loop-rank-test.false)) c.loop-rank.invariant.text
