-- Each compressed row of floating point is apart from all of whole numbers, row by row.
use Rattle.rv_float_tables.proofs.CompressedRows.{apart_from_integers}
use Rattle.rv_float_tables.proofs.laws.compressed_rows_are_apart_from_those_of_integers.Goals as goal

pub returns : goal.returns
returns c = apart_from_integers
