-- The words of the base formats (RISC-V Unprivileged ISA 20191213, section 2.2 "Base Instruction Formats" and section 2.3
-- "Immediate Encoding Variants"): the bits that a row fixes, and the operands in the others.
use Rattle.std.specs.Prelude.{◌≡◌, ℕ, ◌<◌, ◌^◌, ◌↔◌, ℤ, Option, Some, IfSome, IsSome, bit_and}
use Rattle.rv_tables.specs.declared.instr.Instr.TheVariants.{R, I, Shift, Load, Store, Branch, Upper}
use Rattle.rv_tables.specs.declared.instr.Form.TheVariants as form
use Rattle.rv_tables.specs.declared.instr.ROp.{ROp}
use Rattle.rv_tables.specs.declared.instr.IOp.{IOp}
use Rattle.rv_tables.specs.declared.instr.ShiftOp.{ShiftOp}
use Rattle.rv_tables.specs.declared.instr.LoadOp.{LoadOp}
use Rattle.rv_tables.specs.declared.instr.StoreOp.{StoreOp}
use Rattle.rv_tables.specs.declared.instr.BranchOp.{BranchOp}
use Rattle.rv_tables.specs.declared.instr.UpperOp.{UpperOp}
use Rattle.rv_tables.specs.Rows.{Encoding}
use Rattle.rv_tables.specs.Fields as Fields

-- Rows by the value of the bits that they fix. In a mask 0x7F is the opcode, bits 6 to 0; 0x7000 is funct3, bits 14 to 12; and 0xFE000000
-- is funct7, bits 31 to 25.
abbrev pub r_row_of : ℕ → ROp → Encoding
r_row_of v op =
    record { row = record { mask = 0xFE00707F; value = v; form = form.R }; read = λ w. R op (Fields.rd w) (Fields.rs1 w) (Fields.rs2 w) }

abbrev pub i_row_of : ℕ → IOp → Encoding
i_row_of v op =
    record {
      row = record { mask = 0x707F; value = v; form = form.I };
      read = λ w. I op (Fields.rd w) (Fields.rs1 w) (Fields.i_immediate w);
    }

abbrev pub shift_row_of : ℕ → ShiftOp → Encoding
shift_row_of v op =
    record {
      row = record { mask = 0xFE00707F; value = v; form = form.Shift };
      read = λ w. Shift op (Fields.rd w) (Fields.rs1 w) (Fields.shamt w);
    }

abbrev pub load_row_of : ℕ → LoadOp → Encoding
load_row_of v op =
    record {
      row = record { mask = 0x707F; value = v; form = form.Load };
      read = λ w. Load op (Fields.rd w) (Fields.rs1 w) (Fields.i_immediate w);
    }

abbrev pub store_row_of : ℕ → StoreOp → Encoding
store_row_of v op =
    record {
      row = record { mask = 0x707F; value = v; form = form.Store };
      read = λ w. Store op (Fields.rs1 w) (Fields.rs2 w) (Fields.s_immediate w);
    }

abbrev pub branch_row_of : ℕ → BranchOp → Encoding
branch_row_of v op =
    record {
      row = record { mask = 0x707F; value = v; form = form.Branch };
      read = λ w. Branch op (Fields.rs1 w) (Fields.rs2 w) (Fields.b_immediate w);
    }

abbrev pub upper_row_of : ℕ → UpperOp → Encoding
upper_row_of v op =
    record { row = record { mask = 0x7F; value = v; form = form.Upper }; read = λ w. Upper op (Fields.rd w) (Fields.u_immediate w) }

-- opcode, funct3 and funct7 are those of the value, and three fields of 5 bits are the operands
abbrev pub IsRWord : ℕ → ℕ → ℕ → ℕ → ℕ → Type 0
IsRWord value rd rs1 rs2 w =
    (bit_and w 0xFE00707F ≡ value) × (Fields.rd w ≡ rd) × (Fields.rs1 w ≡ rs1) × (Fields.rs2 w ≡ rs2)

-- opcode and funct3 are those of the value
abbrev pub IsIWord : ℕ → ℕ → ℕ → ℤ → ℕ → Type 0
IsIWord value rd rs1 imm w =
    (bit_and w 0x707F ≡ value) × (Fields.rd w ≡ rd) × (Fields.rs1 w ≡ rs1) × (Fields.i_immediate w ≡ imm)

abbrev pub IsSWord : ℕ → ℕ → ℕ → ℤ → ℕ → Type 0
IsSWord value rs1 rs2 imm w =
    (bit_and w 0x707F ≡ value) × (Fields.rs1 w ≡ rs1) × (Fields.rs2 w ≡ rs2) × (Fields.s_immediate w ≡ imm)

abbrev pub IsBWord : ℕ → ℕ → ℕ → ℤ → ℕ → Type 0
IsBWord value rs1 rs2 imm w =
    (bit_and w 0x707F ≡ value) × (Fields.rs1 w ≡ rs1) × (Fields.rs2 w ≡ rs2) × (Fields.b_immediate w ≡ imm)

-- the opcode is that of the value
abbrev pub IsUWord : ℕ → ℕ → ℕ → ℕ → Type 0
IsUWord value rd imm w = (bit_and w 0x7F ≡ value) × (Fields.rd w ≡ rd) × (Fields.u_immediate w ≡ imm)

abbrev pub IsJWord : ℕ → ℕ → ℤ → ℕ → Type 0
IsJWord value rd imm w = (bit_and w 0x7F ≡ value) × (Fields.rd w ≡ rd) × (Fields.j_immediate w ≡ imm)

-- the value in a result has a property of words, and no other word has it
abbrev pub IsOnlyWord : (ℕ → Type 0) → Option ℕ → Type 0
IsOnlyWord P result = IfSome result P × ((w : ℕ) → w < 2 ^ 32 → P w → result ≡ Some w)

-- a word with a property was to be made of operands: there is one just where these are in their ranges, and it is the only one
pub record IsEncoded (InRange : Type 0) (P : ℕ → Type 0) (result : Option ℕ) : Type 0 where
  pub encodable : IsSome result ↔ InRange
  pub word : IsOnlyWord P result
