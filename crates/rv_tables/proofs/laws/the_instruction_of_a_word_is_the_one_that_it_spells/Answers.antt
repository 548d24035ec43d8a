-- Both directions: the instruction of a word is one that it spells, and the one that it spells is its instruction.
use Rattle.rv_tables.proofs.Spelling.{Spells-from_instruction, instruction_of-Spells}
use Rattle.rv_tables.proofs.laws.the_instruction_of_a_word_is_the_one_that_it_spells.Goals as goal

pub returns : goal.returns
returns c w i = (Spells-from_instruction w i, instruction_of-Spells w i)
