-- The operands of a statement of floating point (own language). Their number and kinds are judged first, and then the range of the one
-- that has one: it is the last one of its statement, so that the first fault from the left is the least.
use Rattle.std.specs.Prelude.{ℕ, true, nat_abs, List, [], ◌∷◌, length, Option, Some, None, Result, Ok, Err}
use Rattle.rv_float_tables.specs.declared.instr.FloatInstr.{FloatInstr}
use Rattle.rv_float_tables.specs.declared.instr.FloatCsr.{FloatCsr}
use Rattle.rv_float_tables.specs.declared.instr.RoundingField.{RoundingField}
use Rattle.rv_float_tables.specs.Mnemonics.{csr_named, rounding_named}
use Rattle.rv_float_tables.specs.Registers.{float_register_number}
use Rattle.asm_syntax.specs.declared.error.LineError.{LineError}
use Rattle.asm_syntax.specs.declared.error.LineError.TheVariants.{BadOperand}
use Rattle.asm_syntax.specs.declared.float_form.FloatForm.{FloatForm}
use Rattle.asm_syntax.specs.declared.float_operands.FloatOperands.{FloatOperands}
use Rattle.asm_syntax.specs.declared.float_operands.Kind.{Kind}
use Rattle.asm_syntax.specs.declared.float_operands.Kind.TheVariants.{IntegerRd, IntegerRs1, Rd, Rs1, Rs2, Rs3}
use Rattle.asm_syntax.specs.declared.float_operands.Kind.TheVariants.{BothSources, Csr, Immediate, Address, Rounding}
use Rattle.asm_syntax.specs.Faults.{judged, if_ok}
use Rattle.asm_syntax.specs.FloatForms.{kinds_of, left_out, row_instruction, row_of}
use Rattle.asm_syntax.specs.Operands.{register_in, number_in, address_in}
use Rattle.asm_syntax.specs.Ranges.{signed, unsigned, is_within}
use Rattle.asm_syntax.specs.Tokens.{Token, name}

-- a register of floating point, a control and status register and a rounding mode, each by its name
abbrev pub float_register_in : List Token → Option ℕ
float_register_in (name r ∷ []) = float_register_number r
float_register_in _ = None

abbrev pub csr_in : List Token → Option FloatCsr
csr_in (name r ∷ []) = csr_named r
csr_in _ = None

abbrev pub rounding_in : List Token → Option RoundingField
rounding_in (name r ∷ []) = rounding_named r
rounding_in _ = None

-- an operand that is just what is wanted, or the fault that it is not
abbrev pub wanted : {X : Type 0} → Option X → Result X LineError
wanted = judged (λ _. true)

-- some operands with what one more of a kind says
abbrev pub read_one : Kind → List Token → FloatOperands → Result FloatOperands LineError
read_one IntegerRd operand o = if_ok (λ r. record o { rd = r }) (wanted (register_in operand))
read_one IntegerRs1 operand o = if_ok (λ r. record o { rs1 = r }) (wanted (register_in operand))
read_one Rd operand o = if_ok (λ r. record o { rd = r }) (wanted (float_register_in operand))
read_one Rs1 operand o = if_ok (λ r. record o { rs1 = r }) (wanted (float_register_in operand))
read_one Rs2 operand o = if_ok (λ r. record o { rs2 = r }) (wanted (float_register_in operand))
read_one Rs3 operand o = if_ok (λ r. record o { rs3 = r }) (wanted (float_register_in operand))
read_one BothSources operand o = if_ok (λ r. record o { rs1 = r; rs2 = r }) (wanted (float_register_in operand))
read_one Csr operand o = if_ok (λ c. record o { csr = c }) (wanted (csr_in operand))
read_one Immediate operand o = if_ok (λ n. record o { rs1 = nat_abs n }) (judged (is_within (unsigned 5)) (number_in operand))
read_one Address operand o =
    if_ok (λ a. record o { rs1 = a.base; imm = a.offset }) (judged (λ a. is_within (signed 12) a.offset) (address_in operand))
read_one Rounding operand o = if_ok (λ rm. record o { rm = rm }) (wanted (rounding_in operand))

-- what follows a result that is no fault
abbrev pub then_read : Result FloatOperands LineError → (FloatOperands → Result FloatOperands LineError) → Result FloatOperands LineError
then_read (Ok o) next = next o
then_read (Err fault) next = Err fault

-- the operands of these kinds
abbrev pub read_all : List Kind → List (List Token) → FloatOperands → Result FloatOperands LineError
read_all (kind ∷ kinds) (operand ∷ operands) o = then_read (read_one kind operand o) (read_all kinds operands)
read_all kinds operands o = Ok o

-- the operands of a statement, where it takes so many
abbrev pub read_kinds : FloatForm → Option (List Kind) → List (List Token) → Result FloatOperands LineError
read_kinds form None operands = Err BadOperand
read_kinds form (Some kinds) operands = read_all kinds operands (left_out form)

-- the instruction that operands of a statement make
abbrev pub float_operation : FloatForm → List (List Token) → Result FloatInstr LineError
float_operation form operands = if_ok (row_instruction (row_of form)) (read_kinds form (kinds_of form (length operands)) operands)
