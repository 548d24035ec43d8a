-- No word meets two rows of A.
use Rattle.rv_atomics.proofs.Spelling.{rows_disjoint}
use Rattle.rv_atomics.proofs.laws.rows_are_disjoint.Goals as goal

pub returns : goal.returns
returns c = rows_disjoint
