-- A sum is inexact if it is not its rounded magnitude.
use Rattle.std.proofs.Common.{subst, not, ap, ◌∙◌}
use Rattle.std.specs.declared.option.Option.{Option}
use Rattle.rv_float_flags.specs.Exact.{combined, rounded}
use Rattle.rv_float_flags.specs.Scaled.{IsMagnitude, IsMagnitudeOf, amount}
use Rattle.rv_float_flags.specs.declared.scaled.Scaled.{Scaled}
use Rattle.rv_float_flags.proofs.Roundings.{inexact_test, sum_at}
use Rattle.rv_float_flags.proofs.rounding.is_sum_inexact.Goals as goal

pub returns-in-Some : goal.returns-in-Some
returns-in-Some c f r g h =
    let z = c.in-Some.z in
    let m : IsMagnitude f (rounded f r) z = subst (λ (p : Option Scaled). IsMagnitudeOf f (rounded f r) p) c.in-Some.is h in
    ap not c.is_sum.ensures ∙ inexact_test f r z (combined c.args.opposite (amount c.args.a) (amount c.args.b)) 1 _ m g
    (sum_at z.digits z.place)
