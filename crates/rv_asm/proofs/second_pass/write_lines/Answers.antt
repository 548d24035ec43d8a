-- Each line adds its bytes and goes on to the next, so that at the end the program is laid out as the text, or the first fault is answered.
use Rattle.std.proofs.Common.{◌≡◌, ◌∷◌, ◌+◌, ◌≤◌, length, vec_len, None, false, rules, sym, ◌∙◌, ap, subst, arith}
use Rattle.asm_syntax.specs.Lines.{lines_of}
use Rattle.rv_asm.specs.Labels.{symbols}
use Rattle.rv_asm.proofs.Laying.{uses_from, uses-placed, IsLaidUpTo, laid_start, laid_whole, next}
use Rattle.rv_asm.proofs.Passes.{lines_in, left_in, left-below}
use Rattle.rv_asm.proofs.Sound.{AreSound, sound_text}
use Rattle.rv_asm.proofs.second_pass.write_lines.Goals as goal

pub lines-init : goal.lines-init
lines-init g c =
    let f = c.args.extensions in
    let s = symbols c.args.labels.now in
    let texts = lines_of c.args.text.now in
    let at_start : 0 ≡ vec_len c.new.result = sym c.new.ensures.len in
    record {
      sound = subst (λ n. AreSound f s n texts) at_start (sound_text f s c.args.text.now c.requires.judged c.requires.known);
      judged = uses-placed f s 1 0 (λ _. false) texts ∙ ap (λ n. uses_from f s 1 n texts) at_start;
      laid = subst (λ b. IsLaidUpTo f s texts texts b 0) (sym c.new.ensures.items) (laid_start f s texts);
      within = omega (arith, at_start);
      counted = omega arith;
    }

pub lines-preserved : goal.lines-preserved
lines-preserved g c =
    let f = c.args.extensions in
    let s = symbols c.args.labels.now in
    let line = c.split_line.result.0.now in
    let texts = lines_in c.split_line.result.1 in
    let lines : lines_in c.lines.rest ≡ line ∷ texts = ap lines_in c.in-Some.is ∙ c.split_line.ensures.lines in
    let left : left_in c.lines.rest ≡ length c.in-Some.remaining.now + 1 = ap left_in c.in-Some.is in
    let fewer : left_in c.split_line.result.1 ≤ length c.in-Some.remaining.now =
    left-below c.split_line.result.1 _ c.split_line.ensures.shorter in
    let n = next f s (lines_of c.args.text.now) c.lines.number (vec_len c.lines.program.bytes) (vec_len c.write_line.new.program.bytes) line
    texts c.lines.program.bytes.items c.write_line.new.program.bytes.items c.lines.program.entry c.write_line.new.program.entry
    c.lines.program.bytes.ok.0 c.write_line.new.program.bytes.ok.0
    (subst (AreSound f s (vec_len c.lines.program.bytes)) lines c.lines.invariant.sound)
    (subst (λ ls. IsLaidUpTo f s (lines_of c.args.text.now) ls c.lines.program.bytes.items c.lines.program.entry) lines
    c.lines.invariant.laid)
    c.in-Ok.ensures.bytes c.in-Ok.ensures.entry c.in-Ok.ensures.ok in
    record {
      sound = n.sound;
      judged = c.lines.invariant.judged ∙ ap (uses_from f s c.lines.number (vec_len c.lines.program.bytes)) lines ∙ n.judged;
      laid = n.laid;
      within = n.within;
      counted = omega (arith, c.lines.invariant.counted, left, fewer);
    }

pub returns-clause-laid : goal.returns-clause-laid
returns-clause-laid g c =
    let none : c.lines.rest ≡ None = search rules in
    laid_whole c.args.extensions (symbols c.args.labels.now) (lines_of c.args.text.now) c.lines.program.bytes.items c.lines.program.entry
    (subst (λ ls. IsLaidUpTo c.args.extensions (symbols c.args.labels.now) (lines_of c.args.text.now) ls c.lines.program.bytes.items
    c.lines.program.entry) (ap lines_in none) c.lines.invariant.laid)
