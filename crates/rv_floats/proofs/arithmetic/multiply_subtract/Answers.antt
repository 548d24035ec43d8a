-- The pattern with the other sign stands for the negated addend.
use Rattle.std.proofs.Common.{ap, ◌∙◌}
use Rattle.std.specs.Float.{float_mul_add}
use Rattle.std.specs.Prelude.{to_bits}
use Rattle.rv_floats.proofs.Signs.{of_negated}
use Rattle.rv_floats.proofs.arithmetic.multiply_subtract.Goals as goal
use lib.Ieee.{Float, of_bits}

pub returns : goal.returns
returns g c =
    let f = g.P.Pattern.format in
    let bits = g.P.Pattern.bits in
    c.multiply_add.ensures
    ∙ ap (λ (z : Float). to_bits f (float_mul_add f (of_bits f (bits c.args.a)) (of_bits f (bits c.args.b)) z))
    (ap (of_bits f) c.sign_negated.ensures ∙ of_negated f (bits c.args.c))
