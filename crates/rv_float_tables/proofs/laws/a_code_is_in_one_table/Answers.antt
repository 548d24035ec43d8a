-- No code with an instruction of floating point has one of whole numbers: their rows are apart.
use Rattle.rv_float_tables.proofs.OneTable.{none_of_integers}
use Rattle.rv_float_tables.proofs.laws.a_code_is_in_one_table.Goals as goal

pub returns : goal.returns
returns c = none_of_integers
