-- The operands of a word's instruction are cut from its fields, so they fit them.
use Rattle.rv_atomics.proofs.RowReads.{IsEncodable-atomic_instruction_of}
use Rattle.rv_atomics.proofs.laws.an_instruction_of_a_word_is_encodable.Goals as goal

pub returns : goal.returns
returns c = IsEncodable-atomic_instruction_of
