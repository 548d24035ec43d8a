-- The root of a number above zero is rounded by the magnitude of that.
use Rattle.std.proofs.Common.{not, ap}
use Rattle.rv_float_modes.proofs.Roundings.{divides, of_finite}
use Rattle.rv_float_modes.proofs.arithmetic.sqrt_in.Goals as goal
use lib.Ieee.{of_bits}
use lib.Ieee.Positive.{num}

pub returns-in-Some : goal.returns-in-Some
returns-in-Some g c =
    let f = g.P.Pattern.format in
    let bits = g.P.Pattern.bits in
    let x = of_bits f (bits c.args.a) in
    let h = c.in-Some.ensures.value in
    of_finite _ _ _ _ _ _ (divides _ (num x) h.0.finite h.1) (ap not h.2) (c.root.ensures f x c.shape_of.ensures.shape h.0)
