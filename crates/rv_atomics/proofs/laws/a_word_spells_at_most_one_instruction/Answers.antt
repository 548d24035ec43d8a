-- Two instructions that one word spells are of one row, and have the same operands.
use Rattle.rv_atomics.proofs.Spelling.{same_from_Spells}
use Rattle.rv_atomics.proofs.laws.a_word_spells_at_most_one_instruction.Goals as goal

pub returns : goal.returns
returns c = same_from_Spells
