-- It is the addition with the other signs.
use Rattle.std.proofs.Common.{ℕ, ap, ◌∙◌}
use Rattle.rv_floats.specs.Signs.{sign_negated}
use Rattle.rv_float_modes.specs.Operations.{multiply_add_in}
use Rattle.rv_float_modes.proofs.Fused.{both_in}
use Rattle.rv_float_modes.proofs.arithmetic.negated_multiply_add_in.Goals as goal

pub returns : goal.returns
returns g c =
    let f = g.P.Pattern.format in
    let bits = g.P.Pattern.bits in
    c.multiply_add_in.ensures
    ∙ ap (λ (x : ℕ). multiply_add_in c.args.mode f x (bits c.args.b) (bits c.sign_negated-2.result)) c.sign_negated.ensures
    ∙ ap (λ (x : ℕ). multiply_add_in c.args.mode f (sign_negated f (bits c.args.a) (bits c.args.a)) (bits c.args.b) x)
    c.sign_negated-2.ensures
    ∙ both_in c.args.mode f (bits c.args.a) (bits c.args.b) (bits c.args.c)
