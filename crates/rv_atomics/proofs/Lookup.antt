-- What decides the instruction of a word: the values that it has under the masks of the rows.
use Rattle.std.proofs.lemmas.Bool.Decides.{nat_tests}
use Rattle.rv_tables.proofs.Masks.{under_707F}
use Rattle.rv_atomics.proofs.Masks.{under_F800707F, under_F9F0707F}

pub ruleset by_masks = (under_707F, under_F800707F, under_F9F0707F, nat_tests)
