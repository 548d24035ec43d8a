-- The product of the digits, at the sum of the places, is the exact product.
use Rattle.std.proofs.Common.{refl}
use Rattle.rv_float_flags.specs.Exact.{exact_product}
use Rattle.rv_float_flags.proofs.Fractions.{product_amount, product_fraction}
use Rattle.rv_float_modes.proofs.Exactly.{number_of_fraction}
use Rattle.rv_float_modes.proofs.finite.product.Goals as goal

pub returns : goal.returns
returns c f x y s h g =
    let p = c.args.p in
    let q = c.args.q in
    let t = c.times-product.result in
    c.rounded_number.ensures f (exact_product x y) s
    (number_of_fraction (exact_product x y) _ t.digits t.place
    (product_fraction f x y p q _ h g (product_amount p q t c.times-product.ensures)) refl)
