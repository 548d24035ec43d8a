-- Two instructions that a word spells are the same: the lemma `same_from_Spells`.
use Rattle.rv_tables.proofs.Spelling.{same_from_Spells}
use Rattle.rv_tables.proofs.laws.a_word_spells_at_most_one_instruction.Goals as goal

pub returns : goal.returns
returns c w i j fits = same_from_Spells w i j
