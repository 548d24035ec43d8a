-- The product of a word with a sign and one without fits 64 bits with a sign.
use Rattle.rv_values.proofs.Signed.{widened-abs, product-fits}
use Rattle.rv_values.proofs.arithmetic.high_signed_unsigned.Goals as goal

pub overflow_mul-from : goal.overflow_mul-from
overflow_mul-from c =
    let a = widened-abs c.args.a c.cast_signed.result c.from.result c.ranges.a.fits c.cast_signed.ensures c.from.ensures in
    product-fits c.from.result c.from-2.result a (rw c.from-2.ensures c.ranges.b.fits)
