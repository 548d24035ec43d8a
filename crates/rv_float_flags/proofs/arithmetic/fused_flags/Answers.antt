-- The flags of a finite fused sum are those of its rounding.
use Rattle.rv_float_flags.proofs.Negated.{same_unlike}
use Rattle.rv_float_flags.proofs.Operations.{of_fused}
use Rattle.rv_float_flags.proofs.arithmetic.fused_flags.Goals as goal
use lib.Ieee.{of_bits}

pub returns-in-Some-Some-Some : goal.returns-in-Some-Some-Some
returns-in-Some-Some-Some g c =
    let f = g.P.Pattern.format in
    let bits = g.P.Pattern.bits in
    of_fused f (of_bits f (bits c.args.a)) (of_bits f (bits c.args.b)) (of_bits f (bits c.args.c)) c.in-Some-Some-Some.p
    c.in-Some-Some-Some.q c.in-Some-Some-Some.r
    c.times.result c.raised.result _ _ _ _ c.in-Some-Some-Some.ensures c.in-Some-Some-Some.ensures' c.in-Some-Some-Some.ensures''
    c.times.ensures c.raised.ensures
    (same_unlike _ _ _ _ (same_unlike _ _ _ _ (c.is_negative.ensures) (c.is_negative-2.ensures)) (c.is_negative-3.ensures))
    c.multiply_add.ensures c.magnitude_of-in-Some-Some-Some.ensures
    (λ r. c.sum_rounding.ensures f r c.limit.ensures.limit)
