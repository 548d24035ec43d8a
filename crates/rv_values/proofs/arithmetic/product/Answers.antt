-- The lower word of a product is the same with signs and without.
use Rattle.rv_values.proofs.Signed.{modulo-mul}
use Rattle.rv_values.proofs.arithmetic.product.Goals as goal

pub returns : goal.returns
returns c = modulo-mul _ _ c.ranges.a.fits c.ranges.b.fits
