-- The operands that the fields of a word have room for (RISC-V Unprivileged ISA 20191213, section 2.2 "Base Instruction Formats").
use Rattle.rv_tables.specs.Operands.{IsRegister}
use Rattle.rv_atomics.specs.declared.instr.AtomicInstr.{AtomicInstr}
use Rattle.rv_atomics.specs.declared.instr.AtomicInstr.TheVariants.{LoadReserved, StoreConditional, Amo}

-- each operand is in the range of its form
abbrev pub IsEncodable : AtomicInstr → Type 0
IsEncodable (LoadReserved order rd rs1) = IsRegister rd × IsRegister rs1
IsEncodable (StoreConditional order rd rs1 rs2) = IsRegister rd × IsRegister rs1 × IsRegister rs2
IsEncodable (Amo op order rd rs1 rs2) = IsRegister rd × IsRegister rs1 × IsRegister rs2
