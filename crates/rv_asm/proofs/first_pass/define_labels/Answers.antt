-- Each line adds its labels and goes on to the next, so that at the end the labels are those of the text, or the first fault is answered.
use Rattle.std.proofs.Common.{◌≡◌, ◌∷◌, ◌+◌, ◌≤◌, length, is_some, ◌∙◌, ap, arith}
use Rattle.rv_asm.specs.Faults.{fault_alone, first_faulty_line}
use Rattle.rv_asm.specs.Labels.{symbols}
use Rattle.rv_asm.specs.Places.{placed}
use Rattle.rv_asm.proofs.Passes.{lines_in, left_in, symbols_from, judged_more, known_more, left-below}
use Rattle.rv_asm.proofs.first_pass.define_labels.Goals as goal

pub lines-preserved : goal.lines-preserved
lines-preserved g c =
    let s = symbols c.lines.labels in
    let t = symbols c.define_line.new.labels in
    let line = c.split_line.result.0.now in
    let texts = lines_in c.split_line.result.1 in
    let lines : lines_in c.lines.rest ≡ line ∷ texts = ap lines_in c.in-Some.is ∙ c.split_line.ensures.lines in
    let left : left_in c.lines.rest ≡ length c.in-Some.remaining.now + 1 = ap left_in c.in-Some.is in
    let fewer : left_in c.split_line.result.1 ≤ length c.in-Some.remaining.now =
    left-below c.split_line.result.1 _ c.split_line.ensures.shorter in
    record {
      judged = c.lines.invariant.judged
          ∙ ap (λ ls. first_faulty_line fault_alone (placed c.args.extensions c.lines.number c.lines.address (λ q. is_some (s q)) ls)) lines
          ∙ judged_more c.args.extensions s t c.lines.number c.lines.address c.in-Ok.end line texts c.in-Ok.ensures.end
          c.in-Ok.ensures.labels
          c.in-Ok.ensures.ok;
      known = λ q. c.lines.invariant.known q
          ∙ ap (λ ls. symbols_from s (placed c.args.extensions c.lines.number c.lines.address (λ p. is_some (s p)) ls) q) lines
          ∙ known_more c.args.extensions s t c.lines.number c.lines.address c.in-Ok.end line texts c.in-Ok.ensures.end
          c.in-Ok.ensures.labels q;
      within = c.in-Ok.ensures.limit;
      counted = omega (arith, c.lines.invariant.counted, left, fewer);
    }
