-- The flags of a finite quotient are those of its rounding.
use Rattle.std.proofs.Common.{sym, ◌∙◌}
use Rattle.rv_float_flags.proofs.Operations.{of_quotient}
use Rattle.rv_float_flags.proofs.arithmetic.quotient_flags.Goals as goal
use lib.Ieee.{of_bits}

pub returns-in-Some-Some : goal.returns-in-Some-Some
returns-in-Some-Some g c =
    let f = g.P.Pattern.format in
    let bits = g.P.Pattern.bits in
    of_quotient f (of_bits f (bits c.args.a)) (of_bits f (bits c.args.b)) c.in-Some-Some.p c.in-Some-Some.q _ _ _ c.in-Some-Some.ensures
    c.in-Some-Some.ensures'
    (sym c.is_invalid_quotient.ensures ∙ c.if-is_invalid_quotient.false)
    (sym c.is_division_by_zero.ensures ∙ c.if-is_division_by_zero.false)
    c.div.ensures c.magnitude_of-in-Some-Some.ensures (λ r. c.quotient_rounding.ensures f r c.limit.ensures.limit)
