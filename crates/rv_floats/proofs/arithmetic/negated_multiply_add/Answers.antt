-- The patterns with the other signs stand for the negated factor and the negated addend.
use Rattle.std.proofs.Common.{ap, ◌∙◌}
use Rattle.std.specs.Float.{float_mul_add}
use Rattle.std.specs.Prelude.{to_bits}
use Rattle.rv_floats.proofs.Signs.{of_negated}
use Rattle.rv_floats.proofs.arithmetic.negated_multiply_add.Goals as goal
use lib.Ieee.{Float, neg, of_bits}

pub returns : goal.returns
returns g c =
    let f = g.P.Pattern.format in
    let bits = g.P.Pattern.bits in
    c.multiply_add.ensures
    ∙ ap (λ (x : Float). to_bits f (float_mul_add f x (of_bits f (bits c.args.b)) (of_bits f (bits c.sign_negated-2.result))))
    (ap (of_bits f) c.sign_negated.ensures ∙ of_negated f (bits c.args.a))
    ∙ ap (λ (z : Float). to_bits f (float_mul_add f (neg (of_bits f (bits c.args.a))) (of_bits f (bits c.args.b)) z))
    (ap (of_bits f) c.sign_negated-2.ensures ∙ of_negated f (bits c.args.c))
