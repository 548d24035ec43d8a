-- Both bounds are words, or the next number, which both formats have.
use Rattle.std.proofs.Common.{ap, sym, ◌∙◌}
use Rattle.std.specs.Float.{minus_two_to, two_to}
use Rattle.rv_float_flags.proofs.Literals.{least_word, of_word, passed, stopped, word_limit}
use Rattle.rv_float_flags.proofs.convert.is_signed_word.Goals as goal
use lib.Ieee.{Float, le, lt, of_bits}

pub returns-then-is_at_most : goal.returns-then-is_at_most
returns-then-is_at_most g c =
    let f = g.P.Pattern.format in
    let x = of_bits f (g.P.Pattern.bits c.args.a) in
    c.is_less.ensures
    ∙ passed (λ (bound : Float). le bound x) (λ (bound : Float). lt x bound) _ _ _ _
    (ap (of_bits f) c.of_word.ensures ∙ of_word f _ _ (least_word f))
    (ap (of_bits f) c.of_unsigned_word.ensures ∙ of_word f _ _ (word_limit f))
    (sym c.is_at_most.ensures ∙ c.if-is_at_most.true)

pub returns-else-is_at_most : goal.returns-else-is_at_most
returns-else-is_at_most g c =
    let f = g.P.Pattern.format in
    let x = of_bits f (g.P.Pattern.bits c.args.a) in
    c.is_at_most.ensures
    ∙ stopped (λ (bound : Float). le bound x) (λ (bound : Float). lt x bound) _ (minus_two_to 31) (two_to 31)
    (ap (of_bits f) c.of_word.ensures ∙ of_word f _ _ (least_word f))
    (sym c.is_at_most.ensures ∙ c.if-is_at_most.false)
