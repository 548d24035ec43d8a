-- The instruction that is found is one that the word spells, and the other way round.
use Rattle.rv_atomics.proofs.Spelling.{Spells-from_instruction, atomic_instruction_of-Spells}
use Rattle.rv_atomics.proofs.laws.the_instruction_of_a_word_is_the_one_that_it_spells.Goals as goal

pub returns : goal.returns
returns c w i = (Spells-from_instruction w i, atomic_instruction_of-Spells w i)
