-- The words of the rows (RISC-V Unprivileged ISA 20191213, section 2.2 "Base Instruction Formats" and section 11.6): the bits that a row
-- fixes, and the operands in the others.
use Rattle.std.specs.Prelude.{◌≡◌, ℕ, List, Option, Some, bit_and}
use Rattle.rv_float_tables.specs.declared.instr.FloatForm.{FloatForm}
use Rattle.rv_float_tables.specs.declared.instr.FloatInstr.{FloatInstr}
use Rattle.rv_tables.specs.Fields.{rd, rs1, rs2}
use Rattle.rv_float_tables.specs.Fields.{rs3, rm, csr}
use Rattle.rv_float_tables.specs.Mnemonics.{float_row_named}
use Rattle.rv_float_tables.specs.Rows.{FloatEncoding}

-- a row by the value of the bits that it fixes
abbrev pub row_of : (mask value : ℕ) → FloatForm → (ℕ → Option FloatInstr) → FloatEncoding
row_of mask value form read = record { row = record { mask = mask; value = value; form = form }; read = read }

-- the row with this mnemonic has this value, which has no bits outside the row's mask
pub record IsRowValue (mask : ℕ) (form : FloatForm) (read : ℕ → Option FloatInstr) (mnemonic : List ℕ) (value : ℕ) : Type 0 where
  pub row : float_row_named mnemonic ≡ Some (row_of mask value form read)
  pub own : bit_and value mask ≡ value

-- Words by the value of their row. In a mask 0x7F is the opcode, bits 6 to 0; 0x7000 is funct3, bits 14 to 12; 0x1F00000 is bits 24 to 20,
-- where rs2 stands; 0x6000000 is the format, bits 26 to 25; and 0xFE000000 is funct7, bits 31 to 25.

-- format R4, which has a third operand above the format, and a rounding mode where funct3 stands
abbrev pub IsR4Word : (value rd rm rs1 rs2 rs3 : ℕ) → ℕ → Type 0
IsR4Word value d mode a b c w =
    (bit_and w 0x600007F ≡ value) × (rd w ≡ d) × (rm w ≡ mode) × (rs1 w ≡ a) × (rs2 w ≡ b) × (rs3 w ≡ c)

-- format R with a rounding mode
abbrev pub IsRoundedWord : (value rd rm rs1 rs2 : ℕ) → ℕ → Type 0
IsRoundedWord value d mode a b w = (bit_and w 0xFE00007F ≡ value) × (rd w ≡ d) × (rm w ≡ mode) × (rs1 w ≡ a) × (rs2 w ≡ b)

-- the same with one operand, where the row fixes what stands where rs2 does
abbrev pub IsRoundedUnaryWord : (value rd rm rs1 : ℕ) → ℕ → Type 0
IsRoundedUnaryWord value d mode a w = (bit_and w 0xFFF0007F ≡ value) × (rd w ≡ d) × (rm w ≡ mode) × (rs1 w ≡ a)

-- the same without a rounding mode
abbrev pub IsUnaryWord : (value rd rs1 : ℕ) → ℕ → Type 0
IsUnaryWord value d a w = (bit_and w 0xFFF0707F ≡ value) × (rd w ≡ d) × (rs1 w ≡ a)

-- format I with the number of a control and status register for an immediate
abbrev pub IsCsrWord : (value rd rs1 csr : ℕ) → ℕ → Type 0
IsCsrWord value d a number w = (bit_and w 0x707F ≡ value) × (rd w ≡ d) × (rs1 w ≡ a) × (csr w ≡ number)
