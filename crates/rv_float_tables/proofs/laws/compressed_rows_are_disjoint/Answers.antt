-- No halfword meets two compressed rows of floating point.
use Rattle.rv_float_tables.proofs.CompressedRows.{compressed_disjoint}
use Rattle.rv_float_tables.proofs.laws.compressed_rows_are_disjoint.Goals as goal

pub returns : goal.returns
returns c = compressed_disjoint
