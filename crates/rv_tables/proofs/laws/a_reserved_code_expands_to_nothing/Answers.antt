-- A halfword at a code that its row reserves has no expansion: the lemma `expansion_of-reserved`.
use Rattle.rv_tables.proofs.CompressedSpelling.{expansion_of-reserved}
use Rattle.rv_tables.proofs.laws.a_reserved_code_expands_to_nothing.Goals as goal

pub returns : goal.returns
returns c h x = expansion_of-reserved h x.row x.listed x.is_of_row x.is_reserved
