-- To the nearest, ties to even, the flags are those of `rv_float_flags`: the lemma `same_flags`.
use Rattle.rv_float_modes.proofs.NearestFlags.{same_flags}
use Rattle.rv_float_modes.proofs.laws.to_the_nearest_the_flags_are_the_same.Goals as goal

pub returns : goal.returns
returns c f r h = same_flags f r h
