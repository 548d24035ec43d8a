-- It is the addition with a factor of the other sign.
use Rattle.std.proofs.Common.{ℕ, ap, ◌∙◌}
use Rattle.rv_float_modes.specs.Operations.{multiply_add_in}
use Rattle.rv_float_modes.proofs.Fused.{negated_in}
use Rattle.rv_float_modes.proofs.arithmetic.negated_multiply_subtract_in.Goals as goal

pub returns : goal.returns
returns g c =
    let f = g.P.Pattern.format in
    let bits = g.P.Pattern.bits in
    c.multiply_add_in.ensures
    ∙ ap (λ (x : ℕ). multiply_add_in c.args.mode f x (bits c.args.b) (bits c.args.c)) c.sign_negated.ensures
    ∙ negated_in c.args.mode f (bits c.args.a) (bits c.args.b) (bits c.args.c)
