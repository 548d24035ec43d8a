-- Each name has a row, whose value has no bits outside the row's mask.
use Rattle.std.proofs.Common.{ℕ, ◌++◌, List, Option, Some, None, refl, arith}
use Rattle.std.specs.Prelude.{codes}
use Rattle.rv_float_tables.specs.declared.instr.FloatForm.{FloatForm}
use Rattle.rv_float_tables.specs.declared.instr.FloatForm.TheVariants as form
use Rattle.rv_float_tables.specs.declared.instr.FloatInstr.{FloatInstr}
use Rattle.rv_float_tables.specs.declared.instr.Format.{Format}
use Rattle.rv_float_tables.specs.declared.instr.ArithmeticOp.{ArithmeticOp}
use Rattle.rv_float_tables.specs.declared.instr.FusedOp.{FusedOp}
use Rattle.rv_float_tables.specs.declared.instr.SignOp.{SignOp}
use Rattle.rv_float_tables.specs.declared.instr.MinMaxOp.{MinMaxOp}
use Rattle.rv_float_tables.specs.declared.instr.CompareOp.{CompareOp}
use Rattle.rv_float_tables.specs.declared.instr.WordKind.{WordKind}
use Rattle.rv_float_tables.specs.declared.instr.CsrOp.{CsrOp}
use Rattle.rv_float_tables.specs.Mnemonics.{float_row_named, of_format, load_mnemonic, store_mnemonic, fused_mnemonic, arithmetic_mnemonic}
use Rattle.rv_float_tables.specs.Mnemonics.{sign_mnemonic, min_max_mnemonic, compare_mnemonic, to_word_mnemonic, from_word_mnemonic}
use Rattle.rv_float_tables.specs.Mnemonics.{to_format_mnemonic, csr_mnemonic}
use Rattle.rv_float_tables.specs.Rows.{FloatEncoding, float_encodings, load_of, store_of, fused_of, arithmetic_of, square_root_of, sign_of}
use Rattle.rv_float_tables.specs.Rows.{min_max_of, compare_of, class_of, to_word_of, from_word_of, to_format_of, move_to_integer_of}
use Rattle.rv_float_tables.specs.Rows.{move_from_integer_of, csr_instruction_of, csr_immediate_of}
use Rattle.rv_float_tables.specs.Words.{IsRowValue}

pub value_in : Option FloatEncoding → ℕ
value_in None = 0
value_in (Some e) = e.row.value

-- the row with this mnemonic is of this form
abbrev pub IsNamed : (mask : ℕ) → FloatForm → (ℕ → Option FloatInstr) → List ℕ → Type 0
IsNamed mask form read mnemonic = IsRowValue mask form read mnemonic (value_in (float_row_named mnemonic))

pub load : (format : Format) → IsNamed 0x707F form.Load (load_of format) (load_mnemonic format)
unfolding float_row_named float_encodings value_in
load format = record { row = grind arith; own = grind arith }

pub store : (format : Format) → IsNamed 0x707F form.Store (store_of format) (store_mnemonic format)
unfolding float_row_named float_encodings value_in
store format = record { row = grind arith; own = grind arith }

pub fused : (op : FusedOp) (format : Format) → IsNamed 0x600007F form.Fused (fused_of op format) (fused_mnemonic op format)
unfolding float_row_named float_encodings value_in
fused op format = record { row = grind arith; own = grind arith }

pub arithmetic : (op : ArithmeticOp) (format : Format) → IsNamed 0xFE00007F form.Arithmetic (arithmetic_of op format)
    (arithmetic_mnemonic op format)
unfolding float_row_named float_encodings value_in
arithmetic op format = record { row = grind arith; own = grind arith }

pub square_root : (format : Format) → IsNamed 0xFFF0007F form.SquareRoot (square_root_of format) (of_format (codes "fsqrt") format)
unfolding float_row_named float_encodings value_in
square_root format = record { row = grind arith; own = grind arith }

pub sign : (op : SignOp) (format : Format) → IsNamed 0xFE00707F form.Sign (sign_of op format) (sign_mnemonic op format)
unfolding float_row_named float_encodings value_in
sign op format = record { row = grind arith; own = grind arith }

pub min_max : (op : MinMaxOp) (format : Format) → IsNamed 0xFE00707F form.MinMax (min_max_of op format) (min_max_mnemonic op format)
unfolding float_row_named float_encodings value_in
min_max op format = record { row = grind arith; own = grind arith }

pub compare : (op : CompareOp) (format : Format) → IsNamed 0xFE00707F form.Compare (compare_of op format) (compare_mnemonic op format)
unfolding float_row_named float_encodings value_in
compare op format = record { row = grind arith; own = grind arith }

pub class : (format : Format) → IsNamed 0xFFF0707F form.Class (class_of format) (of_format (codes "fclass") format)
unfolding float_row_named float_encodings value_in
class format = record { row = grind arith; own = grind arith }

pub to_word : (kind : WordKind) (format : Format) → IsNamed 0xFFF0007F form.ToWord (to_word_of kind format) (to_word_mnemonic kind format)
unfolding float_row_named float_encodings value_in
to_word kind format = record { row = grind arith; own = grind arith }

pub from_word : (kind : WordKind) (format : Format) → IsNamed 0xFFF0007F form.FromWord (from_word_of kind format)
    (from_word_mnemonic kind format)
unfolding float_row_named float_encodings value_in
from_word kind format = record { row = grind arith; own = grind arith }

pub to_format : (format : Format) → IsNamed 0xFFF0007F form.ToFormat (to_format_of format) (to_format_mnemonic format)
unfolding float_row_named float_encodings value_in
to_format format = record { row = grind arith; own = grind arith }

pub move_to_integer : IsNamed 0xFFF0707F form.MoveToInteger move_to_integer_of (codes "fmv.x.w")
unfolding float_row_named float_encodings value_in
move_to_integer = record { row = refl; own = refl }

pub move_from_integer : IsNamed 0xFFF0707F form.MoveFromInteger move_from_integer_of (codes "fmv.w.x")
unfolding float_row_named float_encodings value_in
move_from_integer = record { row = refl; own = refl }

pub csr : (op : CsrOp) → IsNamed 0x707F form.Csr (csr_instruction_of op) (csr_mnemonic op)
unfolding float_row_named float_encodings value_in
csr op = record { row = grind arith; own = grind arith }

pub csr_immediate : (op : CsrOp) → IsNamed 0x707F form.CsrImmediate (csr_immediate_of op) (csr_mnemonic op ++ codes "i")
unfolding float_row_named float_encodings value_in
csr_immediate op = record { row = grind arith; own = grind arith }
