-- The flags of a finite sum are those of its rounding, whatever is there.
use Rattle.std.proofs.Common.{ap, ◌∙◌}
use Rattle.rv_float_flags.specs.Flags.{accrued, invalid}
use Rattle.rv_float_flags.specs.Operations.{sum_flags}
use Rattle.rv_float_flags.proofs.Negated.{same_unlike}
use Rattle.rv_float_flags.proofs.Operations.{none_signals, of_sum_so}
use Rattle.rv_float_flags.proofs.accrued.accrued_add_flags.Goals as goal
use lib.Ieee.{of_bits}

pub returns-in-Some-Some : goal.returns-in-Some-Some
returns-in-Some-Some g c =
    let f = g.P.Pattern.format in
    let bits = g.P.Pattern.bits in
    of_sum_so (accrued c.args.flags) f (of_bits f (bits c.args.a)) (of_bits f (bits c.args.b)) c.in-Some-Some.p c.in-Some-Some.q
    c.raised.result c.raised-in-Some-Some.result _ _ _ _
    c.in-Some-Some.ensures c.in-Some-Some.ensures' c.raised.ensures c.raised-in-Some-Some.ensures
    (same_unlike _ _ _ _ (c.is_negative.ensures) (c.is_negative-2.ensures))
    c.add.ensures c.magnitude_of-in-Some-Some.ensures
    (λ r. c.accrued_sum_rounding.ensures f r c.limit.ensures.limit)
    ∙ ap (accrued c.args.flags)
    (none_signals f (bits c.args.a) (bits c.args.b) (sum_flags f (of_bits f (bits c.args.a)) (of_bits f (bits c.args.b))) invalid
    c.in-Some-Some.ensures.finite c.in-Some-Some.ensures'.finite)
