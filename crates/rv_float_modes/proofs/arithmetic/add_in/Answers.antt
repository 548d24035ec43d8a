-- A finite sum is rounded by the magnitudes of its terms.
use Rattle.rv_float_modes.proofs.Roundings.{of_finite}
use Rattle.rv_float_modes.proofs.Sums.{sum_is}
use Rattle.rv_float_modes.proofs.arithmetic.add_in.Goals as goal
use lib.Ieee.{of_bits}

pub returns-in-Some-Some : goal.returns-in-Some-Some
returns-in-Some-Some g c =
    let f = g.P.Pattern.format in
    let bits = g.P.Pattern.bits in
    let x = of_bits f (bits c.args.a) in
    let y = of_bits f (bits c.args.b) in
    of_finite _ _ _ _ _ _ c.in-Some-Some.ensures.finite c.in-Some-Some.ensures'.finite
    (sum_is c.args.mode f x y c.in-Some-Some.p c.in-Some-Some.q c.raised.result c.raised-in-Some-Some.result _ _ _ c.in-Some-Some.ensures
    c.in-Some-Some.ensures'
    c.raised.ensures c.raised-in-Some-Some.ensures c.is_negative.ensures c.is_negative-in-Some-Some.ensures
    (λ r. c.sum.ensures f r c.shape_of.ensures.shape))
