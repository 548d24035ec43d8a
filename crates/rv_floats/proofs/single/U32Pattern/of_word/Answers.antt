-- The value of a word below zero is that of its size, with a minus.
use Rattle.std.proofs.Common.{rules, w32, ℤ, pos, ◌<ℤ◌, ap, ◌∙◌}
use Rattle.std.proofs.lemmas.Int.{to_z-of_z}
use Rattle.std.specs.Prelude.{to_bits}
use Rattle.rv_floats.proofs.Words.{word_below}
use Rattle.rv_floats.proofs.single.U32Pattern.of_word.Goals as goal
use lib.Ieee.{Float, binary32, neg, of_int}

pub returns-then-word-lt0 : goal.returns-then-word-lt0
returns-then-word-lt0 c =
    let below : c.args.word <ℤ pos 0 = search rules in
    c.f32_to_bits_with_nan.ensures
    ∙ ap (λ (x : Float). to_bits binary32 (neg x)) c.nearest_u32_to_f32-size.ensures
    ∙ ap (λ (n : ℤ). to_bits binary32 (neg (of_int binary32 n)))
    (ap pos (rw (to_z-of_z w32 c.args.word c.ranges.word) at c.unsigned_abs.ensures.value))
    ∙ ap (to_bits binary32) (word_below binary32 c.args.word below)
