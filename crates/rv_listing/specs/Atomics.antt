-- Statements of instructions of A (RISC-V Unprivileged ISA 20191213, sections 8.2 to 8.4, and the listing of chapter 24): the mnemonic, and
-- the operands as the examples there have them, the address last, as a register in parentheses.
use Rattle.std.specs.Prelude.{ℕ, List, [], ◌∷◌, ◌++◌, codes}
use Rattle.rv_atomics.specs.declared.instr.AtomicInstr.{AtomicInstr}
use Rattle.rv_atomics.specs.declared.instr.AtomicInstr.TheVariants.{LoadReserved, StoreConditional, Amo}
use Rattle.rv_atomics.specs.Mnemonics.{atomic_mnemonic_of}
use Rattle.rv_listing.specs.Statement.{register, operand_list}

-- the address in a register, as `(x11)`
abbrev pub in_register : ℕ → List ℕ
in_register r = codes "(" ++ register r ++ codes ")"

-- the operands of an instruction, in the order in which they are written
abbrev pub atomic_operands_of : AtomicInstr → List (List ℕ)
atomic_operands_of (LoadReserved order rd rs1) = register rd ∷ in_register rs1 ∷ []
atomic_operands_of (StoreConditional order rd rs1 rs2) = register rd ∷ register rs2 ∷ in_register rs1 ∷ []
atomic_operands_of (Amo op order rd rs1 rs2) = register rd ∷ register rs2 ∷ in_register rs1 ∷ []

-- an instruction: its mnemonic and its operands, as `amoadd.w x10,x11,(x12)`
abbrev pub atomic_instruction_text : AtomicInstr → List ℕ
atomic_instruction_text i = atomic_mnemonic_of i ++ operand_list (atomic_operands_of i)
