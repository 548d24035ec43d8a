-- No word meets two rows: the lemma `rows_disjoint`.
use Rattle.rv_tables.proofs.Spelling.{rows_disjoint}
use Rattle.rv_tables.proofs.laws.rows_are_disjoint.Goals as goal

pub returns : goal.returns
returns c = rows_disjoint
