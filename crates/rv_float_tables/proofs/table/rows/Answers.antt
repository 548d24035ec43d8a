-- The table lists the rows of the definitions in their order, and they are disjoint.
use Rattle.std.proofs.Common.{refl}
use Rattle.rv_float_tables.specs.Rows.{float_encodings}
use Rattle.rv_float_tables.proofs.Spelling.{rows_disjoint}
use Rattle.rv_float_tables.proofs.table.rows.Goals as goal

pub returns : goal.returns
unfolding float_encodings
returns c = record { order = refl; disjoint = rows_disjoint }
