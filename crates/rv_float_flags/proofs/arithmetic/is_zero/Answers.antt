-- The pattern of the word 0 is a zero's.
use Rattle.std.proofs.Common.{ap, ◌∙◌}
use Rattle.rv_float_flags.proofs.Literals.{of_word, zero_word}
use Rattle.rv_float_flags.proofs.arithmetic.is_zero.Goals as goal
use lib.Ieee.{Float, eq, of_bits}

pub returns : goal.returns
returns g c =
    let f = g.P.Pattern.format in
    let x = of_bits f (g.P.Pattern.bits c.args.a) in
    c.is_equal.ensures ∙ ap (λ (zero : Float). eq x zero) (ap (of_bits f) c.of_unsigned_word.ensures ∙ of_word f _ _ (zero_word f))
