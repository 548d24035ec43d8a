-- A finite product is rounded by the magnitudes of its factors.
use Rattle.std.proofs.Common.{ap, ◌∙◌, Bool}
use Rattle.rv_float_flags.specs.Exact.{exact_product}
use Rattle.rv_float_flags.proofs.Negated.{same_unlike}
use Rattle.rv_float_modes.specs.Modes.{rounding_in}
use Rattle.rv_float_modes.proofs.Roundings.{of_finite}
use Rattle.rv_float_modes.proofs.arithmetic.mul_in.Goals as goal
use lib.Ieee.{of_bits}

pub returns-in-Some-Some : goal.returns-in-Some-Some
returns-in-Some-Some g c =
    let f = g.P.Pattern.format in
    let bits = g.P.Pattern.bits in
    let x = of_bits f (bits c.args.a) in
    let y = of_bits f (bits c.args.b) in
    of_finite _ _ _ _ _ _ c.in-Some-Some.ensures.finite c.in-Some-Some.ensures'.finite
    (c.product.ensures f x y c.shape_of.ensures.shape c.in-Some-Some.ensures c.in-Some-Some.ensures'
    ∙ ap (λ (z : Bool). rounding_in c.args.mode z f (exact_product x y))
    (same_unlike _ _ _ _ c.is_negative.ensures c.is_negative-in-Some-Some.ensures))
