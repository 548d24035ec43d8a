-- The instruction that is found is one that the word spells, and the other way round.
use Rattle.rv_float_tables.proofs.Spelling.{Spells-from_instruction, float_instruction_of-Spells}
use Rattle.rv_float_tables.proofs.laws.the_instruction_of_a_word_is_the_one_that_it_spells.Goals as goal

pub returns : goal.returns
returns c w i = (Spells-from_instruction w i, float_instruction_of-Spells w i)
