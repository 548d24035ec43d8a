-- The operands of an expansion are cut from so few bits of the halfword that they fit the fields of a word.
use Rattle.rv_float_tables.proofs.CompressedRows.{IsEncodable-float_expansion_of}
use Rattle.rv_float_tables.proofs.laws.an_expansion_is_encodable.Goals as goal

pub returns : goal.returns
returns c = IsEncodable-float_expansion_of
