-- No word meets a row of floating point and one of whole numbers.
use Rattle.rv_float_tables.proofs.Spelling.{apart_from_integers}
use Rattle.rv_float_tables.proofs.laws.rows_are_apart_from_those_of_integers.Goals as goal

pub returns : goal.returns
returns c = apart_from_integers
