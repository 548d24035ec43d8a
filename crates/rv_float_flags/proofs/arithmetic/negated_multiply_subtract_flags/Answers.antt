-- The flags are those of the addition with a factor of the other sign.
use Rattle.std.proofs.Common.{ℕ, ap, ◌∙◌}
use Rattle.rv_float_flags.specs.Operations.{multiply_add_flags}
use Rattle.rv_float_flags.proofs.Negated.{negated_by_add}
use Rattle.rv_float_flags.proofs.arithmetic.negated_multiply_subtract_flags.Goals as goal

pub returns : goal.returns
returns g c =
    let f = g.P.Pattern.format in
    let bits = g.P.Pattern.bits in
    c.multiply_add_flags.ensures ∙ ap (λ (x : ℕ). multiply_add_flags f x (bits c.args.b) (bits c.args.c)) c.sign_negated.ensures
    ∙ negated_by_add f (bits c.args.a) (bits c.args.b) (bits c.args.c)
