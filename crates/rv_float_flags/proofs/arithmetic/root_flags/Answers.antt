-- A root is inexact where its square is another value.
use Rattle.std.proofs.Common.{sym, ◌∙◌}
use Rattle.rv_float_flags.proofs.Operations.{of_square}
use Rattle.rv_float_flags.proofs.arithmetic.root_flags.Goals as goal
use lib.Ieee.{of_bits}

pub returns-in-Some : goal.returns-in-Some
returns-in-Some g c =
    let f = g.P.Pattern.format in
    let bits = g.P.Pattern.bits in
    of_square f (of_bits f (bits c.args.a)) c.in-Some.p (bits c.sqrt.result) c.is_root.result _ c.in-Some.ensures
    (sym c.is_below_zero.ensures ∙ c.if-is_below_zero.false) c.sqrt.ensures
    (c.is_root.ensures (of_bits f (bits c.args.a)) c.in-Some.ensures) c.inexact_if.ensures
