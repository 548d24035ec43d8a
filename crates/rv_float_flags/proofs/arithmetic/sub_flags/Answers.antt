-- The flags of a difference are those of the sum with the other sign.
use Rattle.std.proofs.Common.{ℕ, ap, ◌∙◌}
use Rattle.rv_float_flags.specs.Operations.{add_flags}
use Rattle.rv_float_flags.proofs.Negated.{sub_by_add}
use Rattle.rv_float_flags.proofs.arithmetic.sub_flags.Goals as goal

pub returns : goal.returns
returns g c =
    let f = g.P.Pattern.format in
    let bits = g.P.Pattern.bits in
    c.add_flags.ensures ∙ ap (λ (x : ℕ). add_flags f (bits c.args.a) x) c.sign_negated.ensures
    ∙ sub_by_add f (bits c.args.a) (bits c.args.b)
