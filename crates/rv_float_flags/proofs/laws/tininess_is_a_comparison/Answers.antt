-- Scaled up by any 2^t, a result is tiny if it is below the limit of its format: the lemma `tiny_quarters`.
use Rattle.rv_float_flags.proofs.Tiny.{tiny_quarters}
use Rattle.rv_float_flags.proofs.laws.tininess_is_a_comparison.Goals as goal

pub returns : goal.returns
returns c t f r T C = tiny_quarters f r.numerator r.denominator t C T
