-- The rows of the table are those of the definition, in its order, and no word meets two of them.
use Rattle.std.proofs.Common.{refl}
use Rattle.rv_tables.specs.Rows.{encodings}
use Rattle.rv_tables.proofs.Spelling.{rows_disjoint}
use Rattle.rv_tables.proofs.table.rows.Goals as goal

pub returns : goal.returns
unfolding encodings
returns c = record { order = refl; disjoint = rows_disjoint }
