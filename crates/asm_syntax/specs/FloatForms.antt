-- The statements of floating point (RISC-V Unprivileged ISA 20191213, the listings of chapter 24, and the names and pseudo-instructions
-- of chapter 25): the mnemonic of each, the kinds of its operands in the order in which they are written, and the instruction that it
-- makes. A rounding mode may be left out; what it is then is that of assemblers.
use Rattle.std.specs.Prelude.{ℕ, ◌+◌, ◌==◌, if◌then◌else◌, pos, List, [], ◌∷◌, ◌++◌, length, take, drop, codes, find, Option, Some, None}
use Rattle.std.specs.List.{flat_map}
use Rattle.std.specs.Str.{bytes_eq}
use Rattle.rv_float_tables.specs.declared.instr.FloatInstr.{FloatInstr}
use Rattle.rv_float_tables.specs.declared.instr.FloatInstr.TheVariants as instr
use Rattle.rv_float_tables.specs.declared.instr.Format.TheVariants.{Single, Double}
use Rattle.rv_float_tables.specs.declared.instr.RoundingField.{RoundingField}
use Rattle.rv_float_tables.specs.declared.instr.RoundingField.TheVariants.{Rne, Dyn}
use Rattle.rv_float_tables.specs.declared.instr.SignOp.TheVariants.{Sgnj, Sgnjn, Sgnjx}
use Rattle.rv_float_tables.specs.declared.instr.CompareOp.TheVariants.{Flt, Fle}
use Rattle.rv_float_tables.specs.declared.instr.CsrOp.TheVariants.{Write, Set, Clear}
use Rattle.rv_float_tables.specs.declared.instr.FloatCsr.{FloatCsr}
use Rattle.rv_float_tables.specs.declared.instr.FloatCsr.TheVariants.{Fflags, Frm, Fcsr}
use Rattle.rv_float_tables.specs.Mnemonics.{float_mnemonic_of, of_format, sample}
use Rattle.rv_float_tables.specs.Rows.{float_encodings}
use Rattle.asm_syntax.specs.declared.float_form.FloatForm.{FloatForm}
use Rattle.asm_syntax.specs.declared.float_form.FloatForm.TheVariants.{Row, Move, Negate, Absolute, Greater, GreaterOrEqual, ReadFloatCsr}
use Rattle.asm_syntax.specs.declared.float_form.FloatForm.TheVariants.{WriteFloatCsr, WriteFloatCsrImmediate, ReadCsr, ChangeCsr}
use Rattle.asm_syntax.specs.declared.float_form.FloatForm.TheVariants.{ChangeCsrImmediate}
use Rattle.asm_syntax.specs.declared.float_form.RowForm.{RowForm}
use Rattle.asm_syntax.specs.declared.float_form.RowForm.TheVariants as row
use Rattle.asm_syntax.specs.declared.float_operands.FloatOperands.{FloatOperands}
use Rattle.asm_syntax.specs.declared.float_operands.Kind.{Kind}
use Rattle.asm_syntax.specs.declared.float_operands.Kind.TheVariants.{IntegerRd, IntegerRs1, Rd, Rs1, Rs2, Rs3}
use Rattle.asm_syntax.specs.declared.float_operands.Kind.TheVariants.{BothSources, Csr, Immediate, Address, Rounding}

-- the instruction of a row with some operands. The immediate of a CSR instruction stands where rs1 does in others
abbrev pub row_instruction : RowForm → FloatOperands → FloatInstr
row_instruction (row.Load format) o = instr.Load format o.rd o.rs1 o.imm
row_instruction (row.Store format) o = instr.Store format o.rs1 o.rs2 o.imm
row_instruction (row.Fused op format) o = instr.Fused op format o.rd o.rs1 o.rs2 o.rs3 o.rm
row_instruction (row.Arithmetic op format) o = instr.Arithmetic op format o.rd o.rs1 o.rs2 o.rm
row_instruction (row.SquareRoot format) o = instr.SquareRoot format o.rd o.rs1 o.rm
row_instruction (row.Sign op format) o = instr.Sign op format o.rd o.rs1 o.rs2
row_instruction (row.MinMax op format) o = instr.MinMax op format o.rd o.rs1 o.rs2
row_instruction (row.Compare op format) o = instr.Compare op format o.rd o.rs1 o.rs2
row_instruction (row.Class format) o = instr.Class format o.rd o.rs1
row_instruction (row.ToWord kind format) o = instr.ToWord kind format o.rd o.rs1 o.rm
row_instruction (row.FromWord kind format) o = instr.FromWord kind format o.rd o.rs1 o.rm
row_instruction (row.ToFormat format) o = instr.ToFormat format o.rd o.rs1 o.rm
row_instruction row.MoveToInteger o = instr.MoveToInteger o.rd o.rs1
row_instruction row.MoveFromInteger o = instr.MoveFromInteger o.rd o.rs1
row_instruction (row.Csr op) o = instr.Csr op o.csr o.rd o.rs1
row_instruction (row.CsrImmediate op) o = instr.CsrImmediate op o.csr o.rd o.rs1

-- the row whose instruction a statement makes
abbrev pub row_of : FloatForm → RowForm
row_of (Row r) = r
row_of (Move format) = row.Sign Sgnj format
row_of (Negate format) = row.Sign Sgnjn format
row_of (Absolute format) = row.Sign Sgnjx format
row_of (Greater format) = row.Compare Flt format
row_of (GreaterOrEqual format) = row.Compare Fle format
row_of (ReadFloatCsr csr) = row.Csr Set
row_of (WriteFloatCsr csr) = row.Csr Write
row_of (WriteFloatCsrImmediate csr) = row.CsrImmediate Write
row_of ReadCsr = row.Csr Set
row_of (ChangeCsr op) = row.Csr op
row_of (ChangeCsrImmediate op) = row.CsrImmediate op

-- the rounding mode where none is written: that of `frm`, but to nearest where a value goes to doubles, which hold it exactly
abbrev pub usual_rounding : FloatForm → RoundingField
usual_rounding (Row (row.FromWord kind Double)) = Rne
usual_rounding (Row (row.ToFormat Double)) = Rne
usual_rounding _ = Dyn

-- the register of a statement that names it in its mnemonic
abbrev pub own_csr : FloatForm → FloatCsr
own_csr (ReadFloatCsr csr) = csr
own_csr (WriteFloatCsr csr) = csr
own_csr (WriteFloatCsrImmediate csr) = csr
own_csr _ = Fcsr

-- the operands of a statement where none are written
abbrev pub left_out : FloatForm → FloatOperands
left_out form = record { rd = 0; rs1 = 0; rs2 = 0; rs3 = 0; imm = pos 0; csr = own_csr form; rm = usual_rounding form }

-- the mnemonic of a statement. None is called `fscsri`, whose five bits would not fill `fcsr`
abbrev pub float_mnemonic : FloatForm → List ℕ
float_mnemonic (Row r) = float_mnemonic_of (row_instruction r (left_out (Row r)))
float_mnemonic (Move format) = of_format (codes "fmv") format
float_mnemonic (Negate format) = of_format (codes "fneg") format
float_mnemonic (Absolute format) = of_format (codes "fabs") format
float_mnemonic (Greater format) = of_format (codes "fgt") format
float_mnemonic (GreaterOrEqual format) = of_format (codes "fge") format
float_mnemonic (ReadFloatCsr Fcsr) = codes "frcsr"
float_mnemonic (ReadFloatCsr Frm) = codes "frrm"
float_mnemonic (ReadFloatCsr Fflags) = codes "frflags"
float_mnemonic (WriteFloatCsr Fcsr) = codes "fscsr"
float_mnemonic (WriteFloatCsr Frm) = codes "fsrm"
float_mnemonic (WriteFloatCsr Fflags) = codes "fsflags"
float_mnemonic (WriteFloatCsrImmediate Fcsr) = codes "fscsri"
float_mnemonic (WriteFloatCsrImmediate Frm) = codes "fsrmi"
float_mnemonic (WriteFloatCsrImmediate Fflags) = codes "fsflagsi"
float_mnemonic ReadCsr = codes "csrr"
float_mnemonic (ChangeCsr Write) = codes "csrw"
float_mnemonic (ChangeCsr Set) = codes "csrs"
float_mnemonic (ChangeCsr Clear) = codes "csrc"
float_mnemonic (ChangeCsrImmediate Write) = codes "csrwi"
float_mnemonic (ChangeCsrImmediate Set) = codes "csrsi"
float_mnemonic (ChangeCsrImmediate Clear) = codes "csrci"

-- all of some kinds, where there are so many operands
abbrev pub exactly : List Kind → ℕ → Option (List Kind)
exactly kinds n = if n == length kinds then Some kinds else None

-- the same where the last operand may be left out, and where the first may
abbrev pub but_for_last : List Kind → ℕ → Option (List Kind)
but_for_last kinds n = if n + 1 == length kinds then Some (take n kinds) else exactly kinds n

abbrev pub but_for_first : List Kind → ℕ → Option (List Kind)
but_for_first kinds n = if n + 1 == length kinds then Some (drop 1 kinds) else exactly kinds n

-- the kinds of so many operands of a row, in the order in which they are written; none where it does not take so many
abbrev pub row_kinds : RowForm → ℕ → Option (List Kind)
row_kinds (row.Load format) = exactly (Rd ∷ Address ∷ [])
row_kinds (row.Store format) = exactly (Rs2 ∷ Address ∷ [])
row_kinds (row.Fused op format) = but_for_last (Rd ∷ Rs1 ∷ Rs2 ∷ Rs3 ∷ Rounding ∷ [])
row_kinds (row.Arithmetic op format) = but_for_last (Rd ∷ Rs1 ∷ Rs2 ∷ Rounding ∷ [])
row_kinds (row.SquareRoot format) = but_for_last (Rd ∷ Rs1 ∷ Rounding ∷ [])
row_kinds (row.Sign op format) = exactly (Rd ∷ Rs1 ∷ Rs2 ∷ [])
row_kinds (row.MinMax op format) = exactly (Rd ∷ Rs1 ∷ Rs2 ∷ [])
row_kinds (row.Compare op format) = exactly (IntegerRd ∷ Rs1 ∷ Rs2 ∷ [])
row_kinds (row.Class format) = exactly (IntegerRd ∷ Rs1 ∷ [])
row_kinds (row.ToWord kind format) = but_for_last (IntegerRd ∷ Rs1 ∷ Rounding ∷ [])
row_kinds (row.FromWord kind format) = but_for_last (Rd ∷ IntegerRs1 ∷ Rounding ∷ [])
row_kinds (row.ToFormat format) = but_for_last (Rd ∷ Rs1 ∷ Rounding ∷ [])
row_kinds row.MoveToInteger = exactly (IntegerRd ∷ Rs1 ∷ [])
row_kinds row.MoveFromInteger = exactly (Rd ∷ IntegerRs1 ∷ [])
row_kinds (row.Csr op) = exactly (IntegerRd ∷ Csr ∷ IntegerRs1 ∷ [])
row_kinds (row.CsrImmediate op) = exactly (IntegerRd ∷ Csr ∷ Immediate ∷ [])

-- the same of a statement
abbrev pub kinds_of : FloatForm → ℕ → Option (List Kind)
kinds_of (Row r) = row_kinds r
kinds_of (Move format) = exactly (Rd ∷ BothSources ∷ [])
kinds_of (Negate format) = exactly (Rd ∷ BothSources ∷ [])
kinds_of (Absolute format) = exactly (Rd ∷ BothSources ∷ [])
kinds_of (Greater format) = exactly (IntegerRd ∷ Rs2 ∷ Rs1 ∷ [])
kinds_of (GreaterOrEqual format) = exactly (IntegerRd ∷ Rs2 ∷ Rs1 ∷ [])
kinds_of (ReadFloatCsr csr) = exactly (IntegerRd ∷ [])
kinds_of (WriteFloatCsr csr) = but_for_first (IntegerRd ∷ IntegerRs1 ∷ [])
kinds_of (WriteFloatCsrImmediate csr) = but_for_first (IntegerRd ∷ Immediate ∷ [])
kinds_of ReadCsr = exactly (IntegerRd ∷ Csr ∷ [])
kinds_of (ChangeCsr op) = exactly (Csr ∷ IntegerRs1 ∷ [])
kinds_of (ChangeCsrImmediate op) = exactly (Csr ∷ Immediate ∷ [])

-- the row of an instruction
abbrev pub form_of_row : FloatInstr → RowForm
form_of_row (instr.Load format rd rs1 imm) = row.Load format
form_of_row (instr.Store format rs1 rs2 imm) = row.Store format
form_of_row (instr.Fused op format rd rs1 rs2 rs3 rm) = row.Fused op format
form_of_row (instr.Arithmetic op format rd rs1 rs2 rm) = row.Arithmetic op format
form_of_row (instr.SquareRoot format rd rs1 rm) = row.SquareRoot format
form_of_row (instr.Sign op format rd rs1 rs2) = row.Sign op format
form_of_row (instr.MinMax op format rd rs1 rs2) = row.MinMax op format
form_of_row (instr.Compare op format rd rs1 rs2) = row.Compare op format
form_of_row (instr.Class format rd rs1) = row.Class format
form_of_row (instr.ToWord kind format rd rs1 rm) = row.ToWord kind format
form_of_row (instr.FromWord kind format rd rs1 rm) = row.FromWord kind format
form_of_row (instr.ToFormat format rd rs1 rm) = row.ToFormat format
form_of_row (instr.MoveToInteger rd rs1) = row.MoveToInteger
form_of_row (instr.MoveFromInteger rd rs1) = row.MoveFromInteger
form_of_row (instr.Csr op csr rd rs1) = row.Csr op
form_of_row (instr.CsrImmediate op csr rd imm) = row.CsrImmediate op

-- the statement of what a row reads off a word
abbrev pub statement_of_row : Option FloatInstr → List FloatForm
statement_of_row None = []
statement_of_row (Some i) = Row (form_of_row i) ∷ []

-- the pseudo-instructions
unfoldable pub own_float_forms : List FloatForm
own_float_forms =
    Move Single ∷ Move Double ∷ Negate Single ∷ Negate Double ∷ Absolute Single ∷ Absolute Double ∷ Greater Single ∷ Greater Double
    ∷ GreaterOrEqual Single ∷ GreaterOrEqual Double ∷ ReadFloatCsr Fcsr ∷ ReadFloatCsr Frm ∷ ReadFloatCsr Fflags
    ∷ WriteFloatCsr Fcsr ∷ WriteFloatCsr Frm ∷ WriteFloatCsr Fflags ∷ WriteFloatCsrImmediate Frm ∷ WriteFloatCsrImmediate Fflags
    ∷ ReadCsr ∷ ChangeCsr Write ∷ ChangeCsr Set ∷ ChangeCsr Clear ∷ ChangeCsrImmediate Write ∷ ChangeCsrImmediate Set
    ∷ ChangeCsrImmediate Clear ∷ []

-- the statements of floating point: one for each row of the instruction set, and the pseudo-instructions
unfoldable pub float_forms : List FloatForm
float_forms = flat_map (λ e. statement_of_row (e.read sample)) float_encodings ++ own_float_forms

-- the statement with a mnemonic
unfoldable pub float_form_named : List ℕ → Option FloatForm
float_form_named mnemonic = find (λ form. bytes_eq (float_mnemonic form) mnemonic) float_forms
