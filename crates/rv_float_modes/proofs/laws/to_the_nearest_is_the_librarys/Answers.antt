-- To the nearest, ties to even, the rounded pattern is that of the library's `round`: the lemma `nearest_even`.
use Rattle.rv_float_modes.proofs.Nearest.{nearest_even}
use Rattle.rv_float_modes.proofs.laws.to_the_nearest_is_the_librarys.Goals as goal

pub returns : goal.returns
returns c f r = nearest_even f r
