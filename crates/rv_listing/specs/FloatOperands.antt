-- What the operands of a statement of floating point are written as, from the form in which the code holds them.
use Rattle.std.specs.Prelude.{ℕ, List, [], ◌∷◌}
use Rattle.rv_float_tables.specs.declared.instr.FloatInstr.{FloatInstr}
use Rattle.rv_float_tables.specs.declared.instr.FloatInstr.TheVariants.{Fused, Arithmetic, SquareRoot, ToWord, FromWord, ToFormat}
use Rattle.rv_float_tables.specs.Mnemonics.{csr_name}
use Rattle.rv_listing.specs.declared.floats.FloatOperand.{FloatOperand}
use Rattle.rv_listing.specs.declared.floats.FloatOperand.TheVariants.{Float, Csr, Other}
use Rattle.rv_listing.specs.declared.floats.FloatOperands.{FloatOperands}
use Rattle.rv_listing.specs.declared.floats.FloatOperands.TheVariants.{Two, Three, Four}
use Rattle.rv_listing.specs.Floats.{float_register, unless_dyn, rounding_to}
use Rattle.rv_listing.specs.Operands.{operand_text}

-- an operand
abbrev pub float_operand_text : FloatOperand → List ℕ
float_operand_text (Float number) = float_register number
float_operand_text (Csr csr) = csr_name csr
float_operand_text (Other operand) = operand_text operand

-- the operands of an instruction but for its rounding mode, each as it is written
abbrev pub float_operand_texts : FloatOperands → List (List ℕ)
float_operand_texts (Two first last) = float_operand_text first ∷ float_operand_text last ∷ []
float_operand_texts (Three first second last) = float_operand_text first ∷ float_operand_text second ∷ float_operand_text last ∷ []
float_operand_texts (Four first second third last) =
    float_operand_text first ∷ float_operand_text second ∷ float_operand_text third ∷ float_operand_text last ∷ []

-- the rounding mode of an instruction as its last operand, if it is written
abbrev pub rounding_operands : FloatInstr → List (List ℕ)
rounding_operands (Fused op format rd rs1 rs2 rs3 rm) = unless_dyn rm
rounding_operands (Arithmetic op format rd rs1 rs2 rm) = unless_dyn rm
rounding_operands (SquareRoot format rd rs1 rm) = unless_dyn rm
rounding_operands (ToWord kind format rd rs1 rm) = unless_dyn rm
rounding_operands (FromWord kind format rd rs1 rm) = rounding_to format rm
rounding_operands (ToFormat format rd rs1 rm) = rounding_to format rm
rounding_operands other = []
