-- The number that is found in the table of names is that of the definition, and is a register's.
use Rattle.std.proofs.Common.{◌≡◌}
use Rattle.rv_float_tables.specs.Registers.{float_register_names, float_register_number}
use Rattle.rv_float_tables.proofs.NameTables.{IsRegister-float_register_number}
use Rattle.rv_float_tables.proofs.registers.float_reg_number.Goals as goal

value : (c : goal.After-named) → c.named.result ≡ float_register_number c.args.name.now
unfolding float_register_number float_register_names
value c = c.named.ensures

pub returns : goal.returns
returns c = record { value = value c; encodable = IsRegister-float_register_number c.args.name.now c.named.result (value c) }
