-- The operands of the instruction of a word fit their fields: the lemma `IsEncodable-instruction_of`.
use Rattle.rv_tables.proofs.RowReads.{IsEncodable-instruction_of}
use Rattle.rv_tables.proofs.laws.an_instruction_of_a_word_is_encodable.Goals as goal

pub returns : goal.returns
returns c w i fits = IsEncodable-instruction_of w i
