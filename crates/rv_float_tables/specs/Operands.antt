-- The operands that the fields of a word have room for (RISC-V Unprivileged ISA 20191213, section 2.2 "Base Instruction Formats" and
-- section 11.6). f0 to f31 are numbered as x0 to x31 are.
use Rattle.std.specs.Prelude.{◌<◌}
use Rattle.rv_tables.specs.Operands.{IsRegister, IsImmediate}
use Rattle.rv_float_tables.specs.declared.instr.FloatInstr.{FloatInstr}
use Rattle.rv_float_tables.specs.declared.instr.FloatInstr.TheVariants.{Load, Store, Fused, Arithmetic, SquareRoot, Sign, MinMax, Compare}
use Rattle.rv_float_tables.specs.declared.instr.FloatInstr.TheVariants.{Class, ToWord, FromWord, ToFormat, MoveToInteger, MoveFromInteger}
use Rattle.rv_float_tables.specs.declared.instr.FloatInstr.TheVariants.{Csr, CsrImmediate}

-- each operand is in the range of its form
abbrev pub IsEncodable : FloatInstr → Type 0
IsEncodable (Load format rd rs1 imm) = IsRegister rd × IsRegister rs1 × IsImmediate imm
IsEncodable (Store format rs1 rs2 imm) = IsRegister rs1 × IsRegister rs2 × IsImmediate imm
IsEncodable (Fused op format rd rs1 rs2 rs3 rm) = IsRegister rd × IsRegister rs1 × IsRegister rs2 × IsRegister rs3
IsEncodable (Arithmetic op format rd rs1 rs2 rm) = IsRegister rd × IsRegister rs1 × IsRegister rs2
IsEncodable (SquareRoot format rd rs1 rm) = IsRegister rd × IsRegister rs1
IsEncodable (Sign op format rd rs1 rs2) = IsRegister rd × IsRegister rs1 × IsRegister rs2
IsEncodable (MinMax op format rd rs1 rs2) = IsRegister rd × IsRegister rs1 × IsRegister rs2
IsEncodable (Compare op format rd rs1 rs2) = IsRegister rd × IsRegister rs1 × IsRegister rs2
IsEncodable (Class format rd rs1) = IsRegister rd × IsRegister rs1
IsEncodable (ToWord kind format rd rs1 rm) = IsRegister rd × IsRegister rs1
IsEncodable (FromWord kind format rd rs1 rm) = IsRegister rd × IsRegister rs1
IsEncodable (ToFormat format rd rs1 rm) = IsRegister rd × IsRegister rs1
IsEncodable (MoveToInteger rd rs1) = IsRegister rd × IsRegister rs1
IsEncodable (MoveFromInteger rd rs1) = IsRegister rd × IsRegister rs1
IsEncodable (Csr op csr rd rs1) = IsRegister rd × IsRegister rs1
IsEncodable (CsrImmediate op csr rd imm) = IsRegister rd × (imm < 32)
