-- The rows of RV32F, RV32D and Zicsr (RISC-V Unprivileged ISA 20191213, chapter 24 "RV32/64G Instruction Set Listings"), and the
-- instruction of a word.
--
-- Of the rows of Zicsr a word is an instruction where its CSR is one of floating point, and of those with a rounding mode where
-- that is none of the reserved ones.
use Rattle.std.specs.Prelude.{ℕ, ◌+◌, ◌*◌, ◌^◌, List, [], ◌∷◌, Option, Some, None}
use Rattle.std.specs.Option.{option_map, option_flatten}
use Rattle.rv_float_tables.specs.declared.instr.FloatInstr.{FloatInstr}
use Rattle.rv_float_tables.specs.declared.instr.FloatInstr.TheVariants.{Load, Store, Fused, Arithmetic, SquareRoot, Sign, MinMax, Compare}
use Rattle.rv_float_tables.specs.declared.instr.FloatInstr.TheVariants.{Class, ToWord, FromWord, ToFormat, MoveToInteger, MoveFromInteger}
use Rattle.rv_float_tables.specs.declared.instr.FloatInstr.TheVariants.{Csr, CsrImmediate}
use Rattle.rv_float_tables.specs.declared.instr.FloatForm.{FloatForm}
use Rattle.rv_float_tables.specs.declared.instr.FloatForm.TheVariants as form
use Rattle.rv_float_tables.specs.declared.instr.Format.{Format}
use Rattle.rv_float_tables.specs.declared.instr.Format.TheVariants.{Single, Double}
use Rattle.rv_float_tables.specs.declared.instr.RoundingField.{RoundingField}
use Rattle.rv_float_tables.specs.declared.instr.ArithmeticOp.{ArithmeticOp}
use Rattle.rv_float_tables.specs.declared.instr.ArithmeticOp.TheVariants.{Add, Sub, Mul, Div}
use Rattle.rv_float_tables.specs.declared.instr.FusedOp.{FusedOp}
use Rattle.rv_float_tables.specs.declared.instr.FusedOp.TheVariants.{Madd, Msub, Nmsub, Nmadd}
use Rattle.rv_float_tables.specs.declared.instr.SignOp.{SignOp}
use Rattle.rv_float_tables.specs.declared.instr.SignOp.TheVariants.{Sgnj, Sgnjn, Sgnjx}
use Rattle.rv_float_tables.specs.declared.instr.MinMaxOp.{MinMaxOp}
use Rattle.rv_float_tables.specs.declared.instr.MinMaxOp.TheVariants.{Min, Max}
use Rattle.rv_float_tables.specs.declared.instr.CompareOp.{CompareOp}
use Rattle.rv_float_tables.specs.declared.instr.CompareOp.TheVariants.{Feq, Flt, Fle}
use Rattle.rv_float_tables.specs.declared.instr.WordKind.{WordKind}
use Rattle.rv_float_tables.specs.declared.instr.WordKind.TheVariants.{Signed, Unsigned}
use Rattle.rv_float_tables.specs.declared.instr.CsrOp.{CsrOp}
use Rattle.rv_float_tables.specs.declared.instr.CsrOp.TheVariants.{Write, Set, Clear}
use Rattle.rv_float_tables.specs.declared.instr.FloatCsr.{FloatCsr}
use Rattle.rv_tables.specs.declared.instr.Row.{Row}
use Rattle.rv_tables.specs.Fields.{rd, rs1, rs2, i_immediate, s_immediate}
use Rattle.rv_tables.specs.Tables.{ones, RowEncoding, Reads, read_off}
use Rattle.rv_float_tables.specs.Fields.{rs3, rm, csr, uimm, rounding_of, csr_of}

-- a row, and the instruction of a word that meets it, or none where a field of the word is at a value that the row does not have
abbrev pub FloatEncoding : Type 0
FloatEncoding = RowEncoding FloatForm (Option FloatInstr)

-- ---- what the forms read

-- an instruction with the word's rounding mode, or none where that is reserved
abbrev pub rounded : ℕ → (RoundingField → FloatInstr) → Option FloatInstr
rounded w make = option_map make (rounding_of (rm w))

-- an instruction on the word's CSR, or none where that is not of floating point
abbrev pub on_csr : ℕ → (FloatCsr → FloatInstr) → Option FloatInstr
on_csr w make = option_map make (csr_of (csr w))

abbrev pub load_of : Format → ℕ → Option FloatInstr
load_of format w = Some (Load format (rd w) (rs1 w) (i_immediate w))

abbrev pub store_of : Format → ℕ → Option FloatInstr
store_of format w = Some (Store format (rs1 w) (rs2 w) (s_immediate w))

abbrev pub fused_of : FusedOp → Format → ℕ → Option FloatInstr
fused_of op format w = rounded w (Fused op format (rd w) (rs1 w) (rs2 w) (rs3 w))

abbrev pub arithmetic_of : ArithmeticOp → Format → ℕ → Option FloatInstr
arithmetic_of op format w = rounded w (Arithmetic op format (rd w) (rs1 w) (rs2 w))

abbrev pub square_root_of : Format → ℕ → Option FloatInstr
square_root_of format w = rounded w (SquareRoot format (rd w) (rs1 w))

abbrev pub sign_of : SignOp → Format → ℕ → Option FloatInstr
sign_of op format w = Some (Sign op format (rd w) (rs1 w) (rs2 w))

abbrev pub min_max_of : MinMaxOp → Format → ℕ → Option FloatInstr
min_max_of op format w = Some (MinMax op format (rd w) (rs1 w) (rs2 w))

abbrev pub compare_of : CompareOp → Format → ℕ → Option FloatInstr
compare_of op format w = Some (Compare op format (rd w) (rs1 w) (rs2 w))

abbrev pub class_of : Format → ℕ → Option FloatInstr
class_of format w = Some (Class format (rd w) (rs1 w))

abbrev pub to_word_of : WordKind → Format → ℕ → Option FloatInstr
to_word_of kind format w = rounded w (ToWord kind format (rd w) (rs1 w))

abbrev pub from_word_of : WordKind → Format → ℕ → Option FloatInstr
from_word_of kind format w = rounded w (FromWord kind format (rd w) (rs1 w))

abbrev pub to_format_of : Format → ℕ → Option FloatInstr
to_format_of format w = rounded w (ToFormat format (rd w) (rs1 w))

abbrev pub move_to_integer_of : ℕ → Option FloatInstr
move_to_integer_of w = Some (MoveToInteger (rd w) (rs1 w))

abbrev pub move_from_integer_of : ℕ → Option FloatInstr
move_from_integer_of w = Some (MoveFromInteger (rd w) (rs1 w))

abbrev pub csr_instruction_of : CsrOp → ℕ → Option FloatInstr
csr_instruction_of op w = on_csr w (λ register. Csr op register (rd w) (rs1 w))

abbrev pub csr_immediate_of : CsrOp → ℕ → Option FloatInstr
csr_immediate_of op w = on_csr w (λ register. CsrImmediate op register (rd w) (uimm w))

-- ---- rows by the fields that they fix, from bit 31 down

-- the opcode in bits 6 to 0, funct3 in 14 to 12
abbrev pub by_funct3 : (funct3 opcode : ℕ) → FloatForm → Row FloatForm
by_funct3 f3 opc form = record { mask = ones 14 12 + ones 6 0; value = f3 * 2 ^ 12 + opc; form = form }

-- the format in 26 to 25
abbrev pub by_fmt : (fmt opcode : ℕ) → FloatForm → Row FloatForm
by_fmt f opc form = record { mask = ones 26 25 + ones 6 0; value = f * 2 ^ 25 + opc; form = form }

-- funct7 in 31 to 25, whose two lowest bits are the format
abbrev pub by_funct7 : (funct7 opcode : ℕ) → FloatForm → Row FloatForm
by_funct7 f7 opc form = record { mask = ones 31 25 + ones 6 0; value = f7 * 2 ^ 25 + opc; form = form }

abbrev pub by_funct7_funct3 : (funct7 funct3 opcode : ℕ) → FloatForm → Row FloatForm
by_funct7_funct3 f7 f3 opc form =
    record { mask = ones 31 25 + ones 14 12 + ones 6 0; value = f7 * 2 ^ 25 + f3 * 2 ^ 12 + opc; form = form }

-- what stands where rs2 does, in 24 to 20
abbrev pub by_funct7_rs2 : (funct7 rs2 opcode : ℕ) → FloatForm → Row FloatForm
by_funct7_rs2 f7 r2 opc form =
    record { mask = ones 31 25 + ones 24 20 + ones 6 0; value = f7 * 2 ^ 25 + r2 * 2 ^ 20 + opc; form = form }

abbrev pub by_funct7_rs2_funct3 : (funct7 rs2 funct3 opcode : ℕ) → FloatForm → Row FloatForm
by_funct7_rs2_funct3 f7 r2 f3 opc form = record {
  mask = ones 31 25 + ones 24 20 + ones 14 12 + ones 6 0;
  value = f7 * 2 ^ 25 + r2 * 2 ^ 20 + f3 * 2 ^ 12 + opc;
  form = form;
}

abbrev pub load_row : (funct3 opcode : ℕ) → Format → FloatEncoding
load_row f3 opc format = record { row = by_funct3 f3 opc form.Load; read = load_of format }

abbrev pub store_row : (funct3 opcode : ℕ) → Format → FloatEncoding
store_row f3 opc format = record { row = by_funct3 f3 opc form.Store; read = store_of format }

abbrev pub fused_row : (fmt opcode : ℕ) → FusedOp → Format → FloatEncoding
fused_row f opc op format = record { row = by_fmt f opc form.Fused; read = fused_of op format }

abbrev pub arithmetic_row : (funct7 opcode : ℕ) → ArithmeticOp → Format → FloatEncoding
arithmetic_row f7 opc op format = record { row = by_funct7 f7 opc form.Arithmetic; read = arithmetic_of op format }

abbrev pub square_root_row : (funct7 rs2 opcode : ℕ) → Format → FloatEncoding
square_root_row f7 r2 opc format = record { row = by_funct7_rs2 f7 r2 opc form.SquareRoot; read = square_root_of format }

abbrev pub sign_row : (funct7 funct3 opcode : ℕ) → SignOp → Format → FloatEncoding
sign_row f7 f3 opc op format = record { row = by_funct7_funct3 f7 f3 opc form.Sign; read = sign_of op format }

abbrev pub min_max_row : (funct7 funct3 opcode : ℕ) → MinMaxOp → Format → FloatEncoding
min_max_row f7 f3 opc op format = record { row = by_funct7_funct3 f7 f3 opc form.MinMax; read = min_max_of op format }

abbrev pub compare_row : (funct7 funct3 opcode : ℕ) → CompareOp → Format → FloatEncoding
compare_row f7 f3 opc op format = record { row = by_funct7_funct3 f7 f3 opc form.Compare; read = compare_of op format }

abbrev pub class_row : (funct7 rs2 funct3 opcode : ℕ) → Format → FloatEncoding
class_row f7 r2 f3 opc format = record { row = by_funct7_rs2_funct3 f7 r2 f3 opc form.Class; read = class_of format }

abbrev pub to_word_row : (funct7 rs2 opcode : ℕ) → WordKind → Format → FloatEncoding
to_word_row f7 r2 opc kind format = record { row = by_funct7_rs2 f7 r2 opc form.ToWord; read = to_word_of kind format }

abbrev pub from_word_row : (funct7 rs2 opcode : ℕ) → WordKind → Format → FloatEncoding
from_word_row f7 r2 opc kind format = record { row = by_funct7_rs2 f7 r2 opc form.FromWord; read = from_word_of kind format }

abbrev pub to_format_row : (funct7 rs2 opcode : ℕ) → Format → FloatEncoding
to_format_row f7 r2 opc format = record { row = by_funct7_rs2 f7 r2 opc form.ToFormat; read = to_format_of format }

abbrev pub move_to_integer_row : (funct7 rs2 funct3 opcode : ℕ) → FloatEncoding
move_to_integer_row f7 r2 f3 opc = record { row = by_funct7_rs2_funct3 f7 r2 f3 opc form.MoveToInteger; read = move_to_integer_of }

abbrev pub move_from_integer_row : (funct7 rs2 funct3 opcode : ℕ) → FloatEncoding
move_from_integer_row f7 r2 f3 opc =
    record { row = by_funct7_rs2_funct3 f7 r2 f3 opc form.MoveFromInteger; read = move_from_integer_of }

abbrev pub csr_row : (funct3 opcode : ℕ) → CsrOp → FloatEncoding
csr_row f3 opc op = record { row = by_funct3 f3 opc form.Csr; read = csr_instruction_of op }

abbrev pub csr_immediate_row : (funct3 opcode : ℕ) → CsrOp → FloatEncoding
csr_immediate_row f3 opc op = record { row = by_funct3 f3 opc form.CsrImmediate; read = csr_immediate_of op }

-- the 58 rows with the fields of the listings, in their order: Zicsr, RV32F, RV32D
unfoldable pub float_encodings : List FloatEncoding
float_encodings =
    csr_row 0b001 0b1110011 Write
    ∷ csr_row 0b010 0b1110011 Set
    ∷ csr_row 0b011 0b1110011 Clear
    ∷ csr_immediate_row 0b101 0b1110011 Write
    ∷ csr_immediate_row 0b110 0b1110011 Set
    ∷ csr_immediate_row 0b111 0b1110011 Clear
    ∷ load_row 0b010 0b0000111 Single
    ∷ store_row 0b010 0b0100111 Single
    ∷ fused_row 0b00 0b1000011 Madd Single
    ∷ fused_row 0b00 0b1000111 Msub Single
    ∷ fused_row 0b00 0b1001011 Nmsub Single
    ∷ fused_row 0b00 0b1001111 Nmadd Single
    ∷ arithmetic_row 0b0000000 0b1010011 Add Single
    ∷ arithmetic_row 0b0000100 0b1010011 Sub Single
    ∷ arithmetic_row 0b0001000 0b1010011 Mul Single
    ∷ arithmetic_row 0b0001100 0b1010011 Div Single
    ∷ square_root_row 0b0101100 0b00000 0b1010011 Single
    ∷ sign_row 0b0010000 0b000 0b1010011 Sgnj Single
    ∷ sign_row 0b0010000 0b001 0b1010011 Sgnjn Single
    ∷ sign_row 0b0010000 0b010 0b1010011 Sgnjx Single
    ∷ min_max_row 0b0010100 0b000 0b1010011 Min Single
    ∷ min_max_row 0b0010100 0b001 0b1010011 Max Single
    ∷ to_word_row 0b1100000 0b00000 0b1010011 Signed Single
    ∷ to_word_row 0b1100000 0b00001 0b1010011 Unsigned Single
    ∷ move_to_integer_row 0b1110000 0b00000 0b000 0b1010011
    ∷ compare_row 0b1010000 0b010 0b1010011 Feq Single
    ∷ compare_row 0b1010000 0b001 0b1010011 Flt Single
    ∷ compare_row 0b1010000 0b000 0b1010011 Fle Single
    ∷ class_row 0b1110000 0b00000 0b001 0b1010011 Single
    ∷ from_word_row 0b1101000 0b00000 0b1010011 Signed Single
    ∷ from_word_row 0b1101000 0b00001 0b1010011 Unsigned Single
    ∷ move_from_integer_row 0b1111000 0b00000 0b000 0b1010011
    ∷ load_row 0b011 0b0000111 Double
    ∷ store_row 0b011 0b0100111 Double
    ∷ fused_row 0b01 0b1000011 Madd Double
    ∷ fused_row 0b01 0b1000111 Msub Double
    ∷ fused_row 0b01 0b1001011 Nmsub Double
    ∷ fused_row 0b01 0b1001111 Nmadd Double
    ∷ arithmetic_row 0b0000001 0b1010011 Add Double
    ∷ arithmetic_row 0b0000101 0b1010011 Sub Double
    ∷ arithmetic_row 0b0001001 0b1010011 Mul Double
    ∷ arithmetic_row 0b0001101 0b1010011 Div Double
    ∷ square_root_row 0b0101101 0b00000 0b1010011 Double
    ∷ sign_row 0b0010001 0b000 0b1010011 Sgnj Double
    ∷ sign_row 0b0010001 0b001 0b1010011 Sgnjn Double
    ∷ sign_row 0b0010001 0b010 0b1010011 Sgnjx Double
    ∷ min_max_row 0b0010101 0b000 0b1010011 Min Double
    ∷ min_max_row 0b0010101 0b001 0b1010011 Max Double
    ∷ to_format_row 0b0100000 0b00001 0b1010011 Single
    ∷ to_format_row 0b0100001 0b00000 0b1010011 Double
    ∷ compare_row 0b1010001 0b010 0b1010011 Feq Double
    ∷ compare_row 0b1010001 0b001 0b1010011 Flt Double
    ∷ compare_row 0b1010001 0b000 0b1010011 Fle Double
    ∷ class_row 0b1110001 0b00000 0b001 0b1010011 Double
    ∷ to_word_row 0b1100001 0b00000 0b1010011 Signed Double
    ∷ to_word_row 0b1100001 0b00001 0b1010011 Unsigned Double
    ∷ from_word_row 0b1101001 0b00000 0b1010011 Signed Double
    ∷ from_word_row 0b1101001 0b00001 0b1010011 Unsigned Double
    ∷ []

-- a word spells an instruction: it meets a row, which reads it off the word's fields
abbrev pub Spells : ℕ → FloatInstr → Type 0
Spells w i = Reads float_encodings w (Some i)

-- a word meets a row, with a field at a value that the row does not have: a rounding mode that is reserved, or a CSR other than fflags, frm
-- and fcsr
abbrev pub IsReserved : ℕ → Type 0
IsReserved w = Reads float_encodings w None

-- the instruction of a word: the one that the row reads that it meets, or none
unfoldable pub float_instruction_of : ℕ → Option FloatInstr
float_instruction_of w = option_flatten (read_off float_encodings w)
