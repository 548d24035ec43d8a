-- The flags of a finite product are those of its rounding.
use Rattle.rv_float_flags.proofs.Operations.{of_product}
use Rattle.rv_float_flags.proofs.arithmetic.product_flags.Goals as goal
use lib.Ieee.{of_bits}

pub returns-in-Some-Some : goal.returns-in-Some-Some
returns-in-Some-Some g c =
    let f = g.P.Pattern.format in
    let bits = g.P.Pattern.bits in
    of_product f (of_bits f (bits c.args.a)) (of_bits f (bits c.args.b)) c.in-Some-Some.p c.in-Some-Some.q c.times.result _ _ _
    c.in-Some-Some.ensures c.in-Some-Some.ensures' c.times.ensures c.mul.ensures c.magnitude_of-in-Some-Some.ensures
    (λ r. c.sum_rounding.ensures f r c.limit.ensures.limit)
