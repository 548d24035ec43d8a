-- The pattern of the product stands for it.
use Rattle.std.proofs.Common.{Bool, ◌&&◌, ◌||◌, ap, sym, ◌∙◌}
use Rattle.std.specs.Float.{float_is_infinite}
use Rattle.rv_float_flags.specs.Operations.{is_invalid_sum}
use Rattle.rv_float_flags.proofs.arithmetic.is_invalid_fused.Goals as goal
use lib.Ieee.{Float, mul, of_bits}
use lib.Ieee.Bits.{of_bits-to_bits}
use lib.Ieee.Fits.{mul-fits}

pub returns-then-is_either_infinite : goal.returns-then-is_either_infinite
returns-then-is_either_infinite g c =
    let f = g.P.Pattern.format in
    let x = of_bits f (g.P.Pattern.bits c.args.a) in
    let y = of_bits f (g.P.Pattern.bits c.args.b) in
    let z = of_bits f (g.P.Pattern.bits c.args.c) in
    let sum = is_invalid_sum (mul f x y) z in
    let infinite = float_is_infinite x || float_is_infinite y in
    c.is_invalid_sum.ensures
    ∙ ap (λ (product : Float). is_invalid_sum product z) (ap (of_bits f) c.mul.ensures ∙ of_bits-to_bits f (mul f x y) (mul-fits f x y))
    ∙ sym
    (ap (λ (b : Bool). b || (infinite && sum)) (sym c.is_invalid_product.ensures ∙ c.if-is_invalid_product.false)
    ∙ ap (λ (b : Bool). b && sum) (sym c.is_either_infinite.ensures ∙ c.if-is_either_infinite.true))
