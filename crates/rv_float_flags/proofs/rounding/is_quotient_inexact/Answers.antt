-- A quotient is inexact if the dividend is not the rounded magnitude times the divisor.
use Rattle.std.proofs.Common.{subst, not, ap, ◌∙◌}
use Rattle.std.specs.declared.option.Option.{Option}
use Rattle.rv_float_flags.specs.Exact.{rounded}
use Rattle.rv_float_flags.specs.Scaled.{IsMagnitude, IsMagnitudeOf, amount}
use Rattle.rv_float_flags.specs.declared.scaled.Scaled.{Scaled}
use Rattle.rv_float_flags.proofs.Roundings.{inexact_test, product_at}
use Rattle.rv_float_flags.proofs.rounding.is_quotient_inexact.Goals as goal

pub returns-in-Some : goal.returns-in-Some
returns-in-Some c f r g h =
    let z = c.in-Some.z in
    let m : IsMagnitude f (rounded f r) z = subst (λ (p : Option Scaled). IsMagnitudeOf f (rounded f r) p) c.in-Some.is h in
    ap not c.is_same.ensures
    ∙ inexact_test f r z (amount c.args.dividend) (amount c.args.y) _ m g (product_at z.digits z.place c.args.y.digits c.args.y.place 1074)
