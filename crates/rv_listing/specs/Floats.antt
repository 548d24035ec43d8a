-- Statements of instructions of floating point (RISC-V Unprivileged ISA 20191213, chapters 11 and 12, the listings of chapter 24), as
-- GNU objdump writes them. A rounding mode stands behind the other operands where it is not the one that assemblers put there: that of
-- `frm`, or to nearest where a value goes to doubles, which hold it exactly.
use Rattle.std.specs.Prelude.{ℕ, List, [], ◌∷◌, ◌++◌, codes}
use Rattle.std.specs.Fmt.{decimal}
use Rattle.rv_tables.specs.declared.code.Code.{Code}
use Rattle.rv_tables.specs.declared.code.Code.TheVariants.{Half, Word}
use Rattle.rv_float_tables.specs.declared.instr.FloatInstr.{FloatInstr}
use Rattle.rv_float_tables.specs.declared.instr.FloatInstr.TheVariants.{Load, Store, Fused, Arithmetic, SquareRoot, Sign, MinMax, Compare}
use Rattle.rv_float_tables.specs.declared.instr.FloatInstr.TheVariants.{Class, ToWord, FromWord, ToFormat, MoveToInteger, MoveFromInteger}
use Rattle.rv_float_tables.specs.declared.instr.FloatInstr.TheVariants.{Csr, CsrImmediate}
use Rattle.rv_float_tables.specs.declared.instr.Format.{Format}
use Rattle.rv_float_tables.specs.declared.instr.Format.TheVariants.{Single, Double}
use Rattle.rv_float_tables.specs.declared.instr.RoundingField.{RoundingField}
use Rattle.rv_float_tables.specs.declared.instr.RoundingField.TheVariants.{Rne, Dyn}
use Rattle.rv_float_tables.specs.Mnemonics.{float_mnemonic_of, rounding_name, csr_name}
use Rattle.rv_listing.specs.Statement.{register, relative, operand_list}

-- the floating-point register with a number, as `f10`
abbrev pub float_register : ℕ → List ℕ
float_register r = codes "f" ++ decimal r

-- a rounding mode as an operand, unless it is that of `frm`, and unless it is to nearest
abbrev pub unless_dyn : RoundingField → List (List ℕ)
unless_dyn Dyn = []
unless_dyn rm = rounding_name rm ∷ []

abbrev pub unless_rne : RoundingField → List (List ℕ)
unless_rne Rne = []
unless_rne rm = rounding_name rm ∷ []

-- that of a row which makes a value of this format of a word, or of a value of the other format
abbrev pub rounding_to : Format → RoundingField → List (List ℕ)
rounding_to Single = unless_dyn
rounding_to Double = unless_rne

-- the operands of an instruction, in the order in which they are written
abbrev pub float_operands_of : FloatInstr → List (List ℕ)
float_operands_of (Load format rd rs1 imm) = float_register rd ∷ relative imm rs1 ∷ []
float_operands_of (Store format rs1 rs2 imm) = float_register rs2 ∷ relative imm rs1 ∷ []
float_operands_of (Fused op format rd rs1 rs2 rs3 rm) =
    float_register rd ∷ float_register rs1 ∷ float_register rs2 ∷ float_register rs3 ∷ unless_dyn rm
float_operands_of (Arithmetic op format rd rs1 rs2 rm) = float_register rd ∷ float_register rs1 ∷ float_register rs2 ∷ unless_dyn rm
float_operands_of (SquareRoot format rd rs1 rm) = float_register rd ∷ float_register rs1 ∷ unless_dyn rm
float_operands_of (Sign op format rd rs1 rs2) = float_register rd ∷ float_register rs1 ∷ float_register rs2 ∷ []
float_operands_of (MinMax op format rd rs1 rs2) = float_register rd ∷ float_register rs1 ∷ float_register rs2 ∷ []
float_operands_of (Compare op format rd rs1 rs2) = register rd ∷ float_register rs1 ∷ float_register rs2 ∷ []
float_operands_of (Class format rd rs1) = register rd ∷ float_register rs1 ∷ []
float_operands_of (ToWord kind format rd rs1 rm) = register rd ∷ float_register rs1 ∷ unless_dyn rm
float_operands_of (FromWord kind format rd rs1 rm) = float_register rd ∷ register rs1 ∷ rounding_to format rm
float_operands_of (ToFormat format rd rs1 rm) = float_register rd ∷ float_register rs1 ∷ rounding_to format rm
float_operands_of (MoveToInteger rd rs1) = register rd ∷ float_register rs1 ∷ []
float_operands_of (MoveFromInteger rd rs1) = float_register rd ∷ register rs1 ∷ []
float_operands_of (Csr op csr rd rs1) = register rd ∷ csr_name csr ∷ register rs1 ∷ []
float_operands_of (CsrImmediate op csr rd imm) = register rd ∷ csr_name csr ∷ decimal imm ∷ []

-- an instruction: its mnemonic and its operands
abbrev pub float_instruction_text : FloatInstr → List ℕ
float_instruction_text i = float_mnemonic_of i ++ operand_list (float_operands_of i)

-- the instruction of a code: behind that of a halfword stands that it is compressed
abbrev pub float_code_text : Code → FloatInstr → List ℕ
float_code_text (Half half) i = float_instruction_text i ++ codes " # compressed"
float_code_text (Word word) i = float_instruction_text i
