-- The lower bound is a word, and the upper one is twice the number that follows the signed words.
use Rattle.std.proofs.Common.{ap, sym, ◌∙◌}
use Rattle.std.specs.Float.{minus_one, two_to}
use Rattle.rv_float_flags.proofs.Literals.{below_zero, of_twice, of_word, passed, stopped, word_limit}
use Rattle.rv_float_flags.proofs.convert.is_unsigned_word.Goals as goal
use lib.Ieee.{Float, lt, of_bits}

pub returns-then-is_less : goal.returns-then-is_less
returns-then-is_less g c =
    let f = g.P.Pattern.format in
    let x = of_bits f (g.P.Pattern.bits c.args.a) in
    c.is_less-then-is_less.ensures
    ∙ passed (λ (bound : Float). lt bound x) (λ (bound : Float). lt x bound) _ _ _ _
    (ap (of_bits f) c.of_word.ensures ∙ of_word f _ _ (below_zero f))
    (ap (of_bits f) c.add.ensures ∙ of_twice f _ (ap (of_bits f) c.of_unsigned_word-half.ensures ∙ of_word f _ _ (word_limit f)))
    (sym c.is_less.ensures ∙ c.if-is_less.true)

pub returns-else-is_less : goal.returns-else-is_less
returns-else-is_less g c =
    let f = g.P.Pattern.format in
    let x = of_bits f (g.P.Pattern.bits c.args.a) in
    c.is_less.ensures
    ∙ stopped (λ (bound : Float). lt bound x) (λ (bound : Float). lt x bound) _ minus_one (two_to 32)
    (ap (of_bits f) c.of_word.ensures ∙ of_word f _ _ (below_zero f))
    (sym c.is_less.ensures ∙ c.if-is_less.false)
