-- The flags are those of the addition with the other sign.
use Rattle.std.proofs.Common.{ℕ, ap, ◌∙◌}
use Rattle.rv_float_flags.specs.Operations.{multiply_add_flags}
use Rattle.rv_float_flags.proofs.Negated.{subtract_by_add}
use Rattle.rv_float_flags.proofs.arithmetic.multiply_subtract_flags.Goals as goal

pub returns : goal.returns
returns g c =
    let f = g.P.Pattern.format in
    let bits = g.P.Pattern.bits in
    c.multiply_add_flags.ensures ∙ ap (λ (x : ℕ). multiply_add_flags f (bits c.args.a) (bits c.args.b) x) c.sign_negated.ensures
    ∙ subtract_by_add f (bits c.args.a) (bits c.args.b) (bits c.args.c)
