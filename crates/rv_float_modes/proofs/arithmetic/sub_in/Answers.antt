-- A difference is the sum with the other sign.
use Rattle.std.proofs.Common.{ℕ, ap, ◌∙◌}
use Rattle.rv_float_modes.specs.Operations.{add_in}
use Rattle.rv_float_modes.proofs.Sums.{sub_by_add_in}
use Rattle.rv_float_modes.proofs.arithmetic.sub_in.Goals as goal

pub returns : goal.returns
returns g c =
    let f = g.P.Pattern.format in
    let bits = g.P.Pattern.bits in
    c.add_in.ensures ∙ ap (λ (x : ℕ). add_in c.args.mode f (bits c.args.a) x) c.sign_negated.ensures
    ∙ sub_by_add_in c.args.mode f (bits c.args.a) (bits c.args.b)
