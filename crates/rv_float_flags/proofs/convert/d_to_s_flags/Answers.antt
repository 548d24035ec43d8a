-- The flags of a finite double are those of its rounding to a single.
use Rattle.std.proofs.Common.{sym, ◌∙◌}
use Rattle.rv_float_flags.proofs.Operations.{of_narrowing, of_value}
use Rattle.rv_float_flags.proofs.convert.d_to_s_flags.Goals as goal
use lib.Ieee.{binary32, binary64, of_bits}

pub returns-in-Some : goal.returns-in-Some
returns-in-Some c =
    of_narrowing c.args.a c.in-Some.p _ (sym c.is_signaling.ensures ∙ c.if-is_signaling.false) c.in-Some.ensures
    (of_value binary64 binary32 (of_bits binary64 c.args.a) c.in-Some.p c.raised.result _ _ _ c.in-Some.ensures c.raised.ensures
    c.d_to_s.ensures
    c.magnitude_of-in-Some.ensures (λ r. c.sum_rounding.ensures binary32 r c.limit.ensures.limit))
