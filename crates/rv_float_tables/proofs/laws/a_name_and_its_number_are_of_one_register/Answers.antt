-- The name that a register has in the calling convention is found again, with the register's number.
use Rattle.rv_float_tables.proofs.NameTables.{number_of_name}
use Rattle.rv_float_tables.proofs.laws.a_name_and_its_number_are_of_one_register.Goals as goal

pub returns : goal.returns
returns c = number_of_name
