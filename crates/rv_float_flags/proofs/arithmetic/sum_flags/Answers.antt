-- The flags of a finite sum are those of its rounding.
use Rattle.rv_float_flags.proofs.Negated.{same_unlike}
use Rattle.rv_float_flags.proofs.Operations.{of_sum}
use Rattle.rv_float_flags.proofs.arithmetic.sum_flags.Goals as goal
use lib.Ieee.{of_bits}

pub returns-in-Some-Some : goal.returns-in-Some-Some
returns-in-Some-Some g c =
    let f = g.P.Pattern.format in
    let bits = g.P.Pattern.bits in
    of_sum f (of_bits f (bits c.args.a)) (of_bits f (bits c.args.b)) c.in-Some-Some.p c.in-Some-Some.q c.raised.result
    c.raised-in-Some-Some.result _ _ _ _
    c.in-Some-Some.ensures c.in-Some-Some.ensures' c.raised.ensures c.raised-in-Some-Some.ensures
    (same_unlike _ _ _ _ (c.is_negative.ensures) (c.is_negative-2.ensures))
    c.add.ensures c.magnitude_of-in-Some-Some.ensures
    (λ r. c.sum_rounding.ensures f r c.limit.ensures.limit)
