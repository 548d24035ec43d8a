-- The expansion that is found is one that the halfword expands to, and the other way round.
use Rattle.rv_float_tables.proofs.CompressedRows.{Expands-from_expansion, float_expansion_of-Expands}
use Rattle.rv_float_tables.proofs.laws.the_expansion_of_a_halfword_is_that_of_its_row.Goals as goal

pub returns : goal.returns
returns c h i = (Expands-from_expansion h i, float_expansion_of-Expands h i)
