-- The flags of a finite product are those of its rounding, whatever is there.
use Rattle.std.proofs.Common.{ap, ◌∙◌}
use Rattle.rv_float_flags.specs.Flags.{accrued, invalid}
use Rattle.rv_float_flags.specs.Operations.{product_flags}
use Rattle.rv_float_flags.proofs.Operations.{none_signals, of_product_so}
use Rattle.rv_float_flags.proofs.accrued.accrued_mul_flags.Goals as goal
use lib.Ieee.{of_bits}

pub returns-in-Some-Some : goal.returns-in-Some-Some
returns-in-Some-Some g c =
    let f = g.P.Pattern.format in
    let bits = g.P.Pattern.bits in
    of_product_so (accrued c.args.flags) f (of_bits f (bits c.args.a)) (of_bits f (bits c.args.b)) c.in-Some-Some.p c.in-Some-Some.q
    c.times.result _ _ _
    c.in-Some-Some.ensures c.in-Some-Some.ensures' c.times.ensures c.mul.ensures c.magnitude_of-in-Some-Some.ensures
    (λ r. c.accrued_sum_rounding.ensures f r c.limit.ensures.limit)
    ∙ ap (accrued c.args.flags)
    (none_signals f (bits c.args.a) (bits c.args.b) (product_flags f (of_bits f (bits c.args.a)) (of_bits f (bits c.args.b))) invalid
    c.in-Some-Some.ensures.finite c.in-Some-Some.ensures'.finite)
