-- The product of two words with signs fits 64 bits with a sign.
use Rattle.std.proofs.Common.{arith}
use Rattle.rv_values.proofs.Signed.{widened-abs, product-fits}
use Rattle.rv_values.proofs.arithmetic.high_signed.Goals as goal

pub overflow_mul-from : goal.overflow_mul-from
overflow_mul-from c =
    let a = widened-abs c.args.a c.cast_signed.result c.from.result c.ranges.a.fits c.cast_signed.ensures c.from.ensures in
    let b = widened-abs c.args.b c.cast_signed-2.result c.from-2.result c.ranges.b.fits c.cast_signed-2.ensures c.from-2.ensures in
    product-fits c.from.result c.from-2.result a (omega (arith, b))
