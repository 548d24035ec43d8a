-- The product of the limit's and the divisor's digits, at the sum of their places, is the product of the two numbers.
use Rattle.std.proofs.Common.{ℕ, ap, sym, ◌∙◌, nat_lt}
use Rattle.rv_float_flags.specs.Scaled.{amount}
use Rattle.rv_float_flags.proofs.Roundings.{bound_at}
use Rattle.rv_float_flags.proofs.rounding.is_quotient_below.Goals as goal

pub returns : goal.returns
returns c =
    c.is_below.ensures
    ∙ ap (λ (x : ℕ). nat_lt (amount c.args.dividend) x)
    (sym (bound_at c.args.limit.digits c.args.limit.place c.args.y.digits c.args.y.place))
