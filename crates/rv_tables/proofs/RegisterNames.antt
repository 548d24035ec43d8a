-- The numbers that the names of the registers have.
use Rattle.std.proofs.Common.{◌≡◌, ℕ, List, Option, refl}
use Rattle.std.specs.Prelude.{IfSome}
use Rattle.rv_tables.specs.Operands.{IsRegister}
use Rattle.rv_tables.specs.Registers.{register_names, register_number}
use Rattle.rv_tables.proofs.NameTables.{IsRegister-named_by}

-- each number of the definition is a register's
pub IsRegister-register_number : (name : List ℕ) (r : Option ℕ) → r ≡ register_number name → IfSome r IsRegister
unfolding register_number register_names
IsRegister-register_number = IsRegister-named_by register_names refl
