-- The rows of RV32I, Zifencei and M (RISC-V Unprivileged ISA 20191213, chapter 24 "RV32/64G Instruction Set Listings"),
-- and the instruction of a word.
use Rattle.std.specs.Prelude.{ℕ, ◌+◌, ◌*◌, ◌^◌, List, [], ◌∷◌, Option}
use Rattle.rv_tables.specs.declared.instr.Instr.{Instr}
use Rattle.rv_tables.specs.declared.instr.Instr.TheVariants.{R, I, Shift, Load, Store, Branch, Upper, Jal, Jalr, Plain}
use Rattle.rv_tables.specs.declared.instr.Form.{Form}
use Rattle.rv_tables.specs.declared.instr.Form.TheVariants as form
use Rattle.rv_tables.specs.declared.instr.Row.{Row}
use Rattle.rv_tables.specs.declared.instr.ROp.{ROp}
use Rattle.rv_tables.specs.declared.instr.ROp.TheVariants.{Add, Sub, Sll, Slt, Sltu, Xor, Srl, Sra, Or, And, Mul, Mulh, Mulhsu, Mulhu, Div}
use Rattle.rv_tables.specs.declared.instr.ROp.TheVariants.{Divu, Rem, Remu}
use Rattle.rv_tables.specs.declared.instr.IOp.{IOp}
use Rattle.rv_tables.specs.declared.instr.IOp.TheVariants.{Addi, Slti, Sltiu, Xori, Ori, Andi}
use Rattle.rv_tables.specs.declared.instr.ShiftOp.{ShiftOp}
use Rattle.rv_tables.specs.declared.instr.ShiftOp.TheVariants.{Slli, Srli, Srai}
use Rattle.rv_tables.specs.declared.instr.LoadOp.{LoadOp}
use Rattle.rv_tables.specs.declared.instr.LoadOp.TheVariants.{Lb, Lh, Lw, Lbu, Lhu}
use Rattle.rv_tables.specs.declared.instr.StoreOp.{StoreOp}
use Rattle.rv_tables.specs.declared.instr.StoreOp.TheVariants.{Sb, Sh, Sw}
use Rattle.rv_tables.specs.declared.instr.BranchOp.{BranchOp}
use Rattle.rv_tables.specs.declared.instr.BranchOp.TheVariants.{Beq, Bne, Blt, Bge, Bltu, Bgeu}
use Rattle.rv_tables.specs.declared.instr.UpperOp.{UpperOp}
use Rattle.rv_tables.specs.declared.instr.UpperOp.TheVariants.{Lui, Auipc}
use Rattle.rv_tables.specs.declared.instr.PlainOp.{PlainOp}
use Rattle.rv_tables.specs.declared.instr.PlainOp.TheVariants.{Fence, FenceI, Ecall, Ebreak}
use Rattle.rv_tables.specs.Fields.{rd, rs1, rs2, shamt, i_immediate, s_immediate, b_immediate, u_immediate, j_immediate}
use Rattle.rv_tables.specs.Tables.{ones, RowEncoding, Reads, read_off}

-- a row, and the instruction of a word that meets it
abbrev pub Encoding : Type 0
Encoding = RowEncoding Form Instr

-- rows by the fields that they fix, from bit 31 down: the opcode in bits 6 to 0, funct3 in 14 to 12, funct7 in 31 to 25
abbrev pub by_opcode : (opcode : ℕ) → Form → Row Form
by_opcode opcode form = record { mask = ones 6 0; value = opcode; form = form }

abbrev pub by_funct3 : (funct3 opcode : ℕ) → Form → Row Form
by_funct3 funct3 opcode form = record { mask = ones 14 12 + ones 6 0; value = funct3 * 2 ^ 12 + opcode; form = form }

abbrev pub by_funct7 : (funct7 funct3 opcode : ℕ) → Form → Row Form
by_funct7 funct7 funct3 opcode form =
    record { mask = ones 31 25 + ones 14 12 + ones 6 0; value = funct7 * 2 ^ 25 + funct3 * 2 ^ 12 + opcode; form = form }

-- all fields: funct12 in bits 31 to 20, rs1 in 19 to 15, rd in 11 to 7
abbrev pub by_word : (funct12 rs1 funct3 rd opcode : ℕ) → Form → Row Form
by_word funct12 rs1 funct3 rd opcode form =
    record { mask = ones 31 0; value = funct12 * 2 ^ 20 + rs1 * 2 ^ 15 + funct3 * 2 ^ 12 + rd * 2 ^ 7 + opcode; form = form }

abbrev pub r_row : (funct7 funct3 opcode : ℕ) → ROp → Encoding
r_row f7 f3 opc op = record { row = by_funct7 f7 f3 opc form.R; read = λ w. R op (rd w) (rs1 w) (rs2 w) }

abbrev pub i_row : (funct3 opcode : ℕ) → IOp → Encoding
i_row f3 opc op = record { row = by_funct3 f3 opc form.I; read = λ w. I op (rd w) (rs1 w) (i_immediate w) }

abbrev pub shift_row : (funct7 funct3 opcode : ℕ) → ShiftOp → Encoding
shift_row f7 f3 opc op = record { row = by_funct7 f7 f3 opc form.Shift; read = λ w. Shift op (rd w) (rs1 w) (shamt w) }

abbrev pub load_row : (funct3 opcode : ℕ) → LoadOp → Encoding
load_row f3 opc op = record { row = by_funct3 f3 opc form.Load; read = λ w. Load op (rd w) (rs1 w) (i_immediate w) }

abbrev pub store_row : (funct3 opcode : ℕ) → StoreOp → Encoding
store_row f3 opc op = record { row = by_funct3 f3 opc form.Store; read = λ w. Store op (rs1 w) (rs2 w) (s_immediate w) }

abbrev pub branch_row : (funct3 opcode : ℕ) → BranchOp → Encoding
branch_row f3 opc op = record { row = by_funct3 f3 opc form.Branch; read = λ w. Branch op (rs1 w) (rs2 w) (b_immediate w) }

abbrev pub upper_row : (opcode : ℕ) → UpperOp → Encoding
upper_row opc op = record { row = by_opcode opc form.Upper; read = λ w. Upper op (rd w) (u_immediate w) }

abbrev pub jal_row : (opcode : ℕ) → Encoding
jal_row opc = record { row = by_opcode opc form.Jal; read = λ w. Jal (rd w) (j_immediate w) }

abbrev pub jalr_row : (funct3 opcode : ℕ) → Encoding
jalr_row f3 opc = record { row = by_funct3 f3 opc form.Jalr; read = λ w. Jalr (rd w) (rs1 w) (i_immediate w) }

abbrev pub fence_row : (funct3 opcode : ℕ) → PlainOp → Encoding
fence_row f3 opc op = record { row = by_funct3 f3 opc form.Plain; read = λ _. Plain op }

abbrev pub system_row : (funct12 rs1 funct3 rd opcode : ℕ) → PlainOp → Encoding
system_row f12 rs1 f3 rd opc op = record { row = by_word f12 rs1 f3 rd opc form.Plain; read = λ _. Plain op }

-- the 49 rows with the fields of the listings: first those told by the opcode alone, then those by funct3 too, then those by funct7 too,
-- then those of one word; each of these groups in the order of the listings
unfoldable pub encodings : List Encoding
encodings =
    upper_row 0b0110111 Lui
    ∷ upper_row 0b0010111 Auipc
    ∷ jal_row 0b1101111
    ∷ jalr_row 0b000 0b1100111
    ∷ branch_row 0b000 0b1100011 Beq
    ∷ branch_row 0b001 0b1100011 Bne
    ∷ branch_row 0b100 0b1100011 Blt
    ∷ branch_row 0b101 0b1100011 Bge
    ∷ branch_row 0b110 0b1100011 Bltu
    ∷ branch_row 0b111 0b1100011 Bgeu
    ∷ load_row 0b000 0b0000011 Lb
    ∷ load_row 0b001 0b0000011 Lh
    ∷ load_row 0b010 0b0000011 Lw
    ∷ load_row 0b100 0b0000011 Lbu
    ∷ load_row 0b101 0b0000011 Lhu
    ∷ store_row 0b000 0b0100011 Sb
    ∷ store_row 0b001 0b0100011 Sh
    ∷ store_row 0b010 0b0100011 Sw
    ∷ i_row 0b000 0b0010011 Addi
    ∷ i_row 0b010 0b0010011 Slti
    ∷ i_row 0b011 0b0010011 Sltiu
    ∷ i_row 0b100 0b0010011 Xori
    ∷ i_row 0b110 0b0010011 Ori
    ∷ i_row 0b111 0b0010011 Andi
    ∷ fence_row 0b000 0b0001111 Fence
    ∷ fence_row 0b001 0b0001111 FenceI
    ∷ shift_row 0b0000000 0b001 0b0010011 Slli
    ∷ shift_row 0b0000000 0b101 0b0010011 Srli
    ∷ shift_row 0b0100000 0b101 0b0010011 Srai
    ∷ r_row 0b0000000 0b000 0b0110011 Add
    ∷ r_row 0b0100000 0b000 0b0110011 Sub
    ∷ r_row 0b0000000 0b001 0b0110011 Sll
    ∷ r_row 0b0000000 0b010 0b0110011 Slt
    ∷ r_row 0b0000000 0b011 0b0110011 Sltu
    ∷ r_row 0b0000000 0b100 0b0110011 Xor
    ∷ r_row 0b0000000 0b101 0b0110011 Srl
    ∷ r_row 0b0100000 0b101 0b0110011 Sra
    ∷ r_row 0b0000000 0b110 0b0110011 Or
    ∷ r_row 0b0000000 0b111 0b0110011 And
    ∷ r_row 0b0000001 0b000 0b0110011 Mul
    ∷ r_row 0b0000001 0b001 0b0110011 Mulh
    ∷ r_row 0b0000001 0b010 0b0110011 Mulhsu
    ∷ r_row 0b0000001 0b011 0b0110011 Mulhu
    ∷ r_row 0b0000001 0b100 0b0110011 Div
    ∷ r_row 0b0000001 0b101 0b0110011 Divu
    ∷ r_row 0b0000001 0b110 0b0110011 Rem
    ∷ r_row 0b0000001 0b111 0b0110011 Remu
    ∷ system_row 0b000000000000 0b00000 0b000 0b00000 0b1110011 Ecall
    ∷ system_row 0b000000000001 0b00000 0b000 0b00000 0b1110011 Ebreak
    ∷ []

-- a word spells an instruction: it meets a row, with the instruction's operands in its fields
abbrev pub Spells : ℕ → Instr → Type 0
Spells w i = Reads encodings w i

-- the instruction of a word: that of the row that it meets, or none
unfoldable pub instruction_of : ℕ → Option Instr
instruction_of w = read_off encodings w
