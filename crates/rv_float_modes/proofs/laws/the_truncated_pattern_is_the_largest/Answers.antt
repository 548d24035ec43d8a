-- The truncated pattern's value is not above the magnitude, and the next one's is: the lemma `largest`.
use Rattle.rv_float_modes.proofs.Truncated.{largest}
use Rattle.rv_float_modes.proofs.laws.the_truncated_pattern_is_the_largest.Goals as goal

pub returns : goal.returns
returns c f r h = largest f r h
