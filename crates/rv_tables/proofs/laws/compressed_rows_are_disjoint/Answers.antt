-- No halfword is of two compressed rows: the lemma `compressed_disjoint`.
use Rattle.rv_tables.proofs.CompressedSpelling.{compressed_disjoint}
use Rattle.rv_tables.proofs.laws.compressed_rows_are_disjoint.Goals as goal

pub returns : goal.returns
returns c = compressed_disjoint
