-- No word meets two rows of floating point.
use Rattle.rv_float_tables.proofs.Spelling.{rows_disjoint}
use Rattle.rv_float_tables.proofs.laws.rows_are_disjoint.Goals as goal

pub returns : goal.returns
returns c = rows_disjoint
