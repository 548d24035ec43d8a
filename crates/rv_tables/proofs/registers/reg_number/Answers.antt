-- The number found in the table of names is that of the definition, and a register.
use Rattle.std.proofs.Common.{◌≡◌}
use Rattle.rv_tables.specs.Registers.{register_names, register_number}
use Rattle.rv_tables.proofs.RegisterNames.{IsRegister-register_number}
use Rattle.rv_tables.proofs.registers.reg_number.Goals as goal

value : (c : goal.After-named) → c.named.result ≡ register_number c.args.name.now
unfolding register_number register_names
value c = c.named.ensures

pub returns : goal.returns
returns c = record { value = value c; encodable = IsRegister-register_number c.args.name.now c.named.result (value c) }
