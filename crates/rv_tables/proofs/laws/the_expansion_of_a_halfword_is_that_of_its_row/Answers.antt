-- Both directions: what a halfword expands to is what its row makes of it, and the other way round.
use Rattle.rv_tables.proofs.CompressedSpelling.{Expands-from_expansion, expansion_of-Expands}
use Rattle.rv_tables.proofs.laws.the_expansion_of_a_halfword_is_that_of_its_row.Goals as goal

pub returns : goal.returns
returns c h i = (Expands-from_expansion h i, expansion_of-Expands h i)
