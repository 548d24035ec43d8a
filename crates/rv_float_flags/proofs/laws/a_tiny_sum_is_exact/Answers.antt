-- A tiny sum of two finite values of the format is exact: the lemma `tiny_sum_exact`.
use Rattle.rv_float_flags.proofs.Sums.{tiny_sum_exact}
use Rattle.rv_float_flags.proofs.laws.a_tiny_sum_is_exact.Goals as goal

pub returns : goal.returns
returns c f x y hx hy gx gy t = tiny_sum_exact f x y hx hy gx gy t
