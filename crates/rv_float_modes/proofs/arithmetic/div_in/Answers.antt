-- A finite quotient is rounded by the magnitudes of its operands.
use Rattle.std.proofs.Common.{◌∙◌, Bool, ap}
use Rattle.rv_float_flags.specs.Exact.{exact_quotient}
use Rattle.rv_float_flags.proofs.Negated.{same_unlike}
use Rattle.rv_float_modes.specs.Modes.{rounding_in}
use Rattle.rv_float_modes.proofs.Roundings.{divides, of_finite}
use Rattle.rv_float_modes.proofs.arithmetic.div_in.Goals as goal
use lib.Ieee.{of_bits}
use lib.Ieee.Positive.{num}

pub returns-in-Some-Some : goal.returns-in-Some-Some
returns-in-Some-Some g c =
    let f = g.P.Pattern.format in
    let bits = g.P.Pattern.bits in
    let x = of_bits f (bits c.args.a) in
    let y = of_bits f (bits c.args.b) in
    let second = c.in-Some-Some.ensures'.value f y c.magnitude_of-2.ensures in
    of_finite _ _ _ _ _ _ c.in-Some-Some.ensures.finite (divides _ (num y) second.0.finite second.1)
    (c.quotient.ensures f x y c.shape_of.ensures.shape c.in-Some-Some.ensures second.0 second.1
    ∙ ap (λ (z : Bool). rounding_in c.args.mode z f (exact_quotient x y))
    (same_unlike _ _ _ _ c.is_negative.ensures c.is_negative-in-Some-Some.ensures))
