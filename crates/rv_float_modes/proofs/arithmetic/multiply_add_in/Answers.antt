-- A finite fused sum is rounded by the magnitudes of its operands.
use Rattle.rv_float_flags.proofs.Negated.{same_unlike}
use Rattle.rv_float_modes.proofs.Fused.{fused_is}
use Rattle.rv_float_modes.proofs.Roundings.{of_three}
use Rattle.rv_float_modes.proofs.arithmetic.multiply_add_in.Goals as goal
use lib.Ieee.{of_bits}

pub returns-in-Some-Some-Some : goal.returns-in-Some-Some-Some
returns-in-Some-Some-Some g c =
    let f = g.P.Pattern.format in
    let bits = g.P.Pattern.bits in
    let x = of_bits f (bits c.args.a) in
    let y = of_bits f (bits c.args.b) in
    let z = of_bits f (bits c.args.c) in
    let h = c.in-Some-Some-Some.ensures in
    let second = c.in-Some-Some-Some.ensures' in
    let k = c.in-Some-Some-Some.ensures'' in
    of_three _ _ _ _ _ _ _ h.finite second.finite k.finite
    (fused_is c.args.mode f x y z c.in-Some-Some-Some.p c.in-Some-Some-Some.q c.in-Some-Some-Some.r c.times.result c.raised.result _ _ _ h
    second k c.times.ensures c.raised.ensures
    (same_unlike _ _ _ _ c.is_negative.ensures c.is_negative-in-Some-Some-Some.ensures) c.is_negative-in-Some-Some-Some-2.ensures
    (λ r. c.sum.ensures f r c.shape_of.ensures.shape))
