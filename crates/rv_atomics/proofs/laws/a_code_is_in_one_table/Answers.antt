-- No code with an instruction of A has one of whole numbers or of floating point: their rows are apart.
use Rattle.rv_atomics.proofs.OneTable.{none_of_integers, none_of_floats}
use Rattle.rv_atomics.proofs.laws.a_code_is_in_one_table.Goals as goal

pub returns-clause-integers : goal.returns-clause-integers
returns-clause-integers c = none_of_integers

pub returns-clause-floats : goal.returns-clause-floats
returns-clause-floats c = none_of_floats
