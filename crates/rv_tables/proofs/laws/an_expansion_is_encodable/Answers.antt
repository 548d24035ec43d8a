-- The operands of an expansion fit the fields of a word: the lemma `IsEncodable-expansion_of`.
use Rattle.rv_tables.proofs.CompressedReads.{IsEncodable-expansion_of}
use Rattle.rv_tables.proofs.laws.an_expansion_is_encodable.Goals as goal

pub returns : goal.returns
returns c h i = IsEncodable-expansion_of h i
