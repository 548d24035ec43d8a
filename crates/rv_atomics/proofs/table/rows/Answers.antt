-- The table lists the rows of the definitions in their order, and they are disjoint.
use Rattle.std.proofs.Common.{refl}
use Rattle.rv_atomics.specs.Rows.{atomic_encodings}
use Rattle.rv_atomics.proofs.Spelling.{rows_disjoint}
use Rattle.rv_atomics.proofs.table.rows.Goals as goal

pub returns : goal.returns
unfolding atomic_encodings
returns c = record { order = refl; disjoint = rows_disjoint }
