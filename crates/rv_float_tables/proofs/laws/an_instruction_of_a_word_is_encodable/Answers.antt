-- The operands of a word's instruction are cut from its fields, so they fit them.
use Rattle.rv_float_tables.proofs.RowReads.{IsEncodable-float_instruction_of}
use Rattle.rv_float_tables.proofs.laws.an_instruction_of_a_word_is_encodable.Goals as goal

pub returns : goal.returns
returns c = IsEncodable-float_instruction_of
