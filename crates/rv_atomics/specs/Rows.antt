-- The rows of RV32A (RISC-V Unprivileged ISA 20191213, sections 8.2 "Load-Reserved/Store-Conditional Instructions" and 8.4 "Atomic Memory
-- Operations", and the listing of chapter 24), and the instruction of a word.
use Rattle.std.specs.Prelude.{ℕ, ◌+◌, ◌*◌, ◌^◌, ◌==◌, List, [], ◌∷◌, Option, if◌then◌else◌}
use Rattle.rv_tables.specs.declared.instr.Row.{Row}
use Rattle.rv_tables.specs.Fields.{bits, rd, rs1, rs2}
use Rattle.rv_tables.specs.Tables.{ones, RowEncoding, Reads, read_off}
use Rattle.rv_atomics.specs.declared.instr.AmoOp.{AmoOp}
use Rattle.rv_atomics.specs.declared.instr.AmoOp.TheVariants.{Swap, Add, Xor, And, Or, Min, Max, Minu, Maxu}
use Rattle.rv_atomics.specs.declared.instr.AtomicForm.{AtomicForm}
use Rattle.rv_atomics.specs.declared.instr.AtomicForm.TheVariants as form
use Rattle.rv_atomics.specs.declared.instr.AtomicInstr.{AtomicInstr}
use Rattle.rv_atomics.specs.declared.instr.AtomicInstr.TheVariants.{LoadReserved, StoreConditional, Amo}
use Rattle.rv_atomics.specs.declared.instr.Order.{Order}
use Rattle.rv_atomics.specs.declared.instr.Order.TheVariants.{Unordered, Release, Acquire, Sequential}

-- a row, and the instruction of a word that meets it
abbrev pub AtomicEncoding : Type 0
AtomicEncoding = RowEncoding AtomicForm AtomicInstr

-- the bits aq and rl (section 8.1), from the higher one
abbrev pub ordering_bits : ℕ → ℕ
ordering_bits w = bits w 26 25

abbrev pub order_of : ℕ → Order
order_of n = if n == 0b00 then Unordered else if n == 0b01 then Release else if n == 0b10 then Acquire else Sequential

abbrev pub order : ℕ → Order
order w = order_of (ordering_bits w)

-- ---- what the forms read

abbrev pub load_reserved_of : ℕ → AtomicInstr
load_reserved_of w = LoadReserved (order w) (rd w) (rs1 w)

abbrev pub store_conditional_of : ℕ → AtomicInstr
store_conditional_of w = StoreConditional (order w) (rd w) (rs1 w) (rs2 w)

abbrev pub amo_of : AmoOp → ℕ → AtomicInstr
amo_of op w = Amo op (order w) (rd w) (rs1 w) (rs2 w)

-- ---- the rows

-- the opcode in bits 6 to 0, funct3 in 14 to 12, and funct5 in 31 to 27: aq and rl, in 26 and 25, are free
abbrev pub by_funct5_funct3 : (funct5 funct3 opcode : ℕ) → AtomicForm → Row AtomicForm
by_funct5_funct3 f5 f3 opc form =
    record { mask = ones 31 27 + ones 14 12 + ones 6 0; value = f5 * 2 ^ 27 + f3 * 2 ^ 12 + opc; form = form }

-- what stands where rs2 does, in 24 to 20
abbrev pub by_funct5_rs2_funct3 : (funct5 rs2 funct3 opcode : ℕ) → AtomicForm → Row AtomicForm
by_funct5_rs2_funct3 f5 r2 f3 opc form = record {
  mask = ones 31 27 + ones 24 20 + ones 14 12 + ones 6 0;
  value = f5 * 2 ^ 27 + r2 * 2 ^ 20 + f3 * 2 ^ 12 + opc;
  form = form;
}

abbrev pub load_reserved_row : (funct5 rs2 funct3 opcode : ℕ) → AtomicEncoding
load_reserved_row f5 r2 f3 opc = record { row = by_funct5_rs2_funct3 f5 r2 f3 opc form.LoadReserved; read = load_reserved_of }

abbrev pub store_conditional_row : (funct5 funct3 opcode : ℕ) → AtomicEncoding
store_conditional_row f5 f3 opc = record { row = by_funct5_funct3 f5 f3 opc form.StoreConditional; read = store_conditional_of }

abbrev pub amo_row : (funct5 funct3 opcode : ℕ) → AmoOp → AtomicEncoding
amo_row f5 f3 opc op = record { row = by_funct5_funct3 f5 f3 opc form.Amo; read = amo_of op }

-- the 11 rows with the fields of the listing, in its order
unfoldable pub atomic_encodings : List AtomicEncoding
atomic_encodings =
    load_reserved_row 0b00010 0b00000 0b010 0b0101111
    ∷ store_conditional_row 0b00011 0b010 0b0101111
    ∷ amo_row 0b00001 0b010 0b0101111 Swap
    ∷ amo_row 0b00000 0b010 0b0101111 Add
    ∷ amo_row 0b00100 0b010 0b0101111 Xor
    ∷ amo_row 0b01100 0b010 0b0101111 And
    ∷ amo_row 0b01000 0b010 0b0101111 Or
    ∷ amo_row 0b10000 0b010 0b0101111 Min
    ∷ amo_row 0b10100 0b010 0b0101111 Max
    ∷ amo_row 0b11000 0b010 0b0101111 Minu
    ∷ amo_row 0b11100 0b010 0b0101111 Maxu
    ∷ []

-- a word spells an instruction: it meets a row, which reads it off the word's fields
abbrev pub Spells : ℕ → AtomicInstr → Type 0
Spells w i = Reads atomic_encodings w i

-- the instruction of a word: the one that the row reads that it meets, or none
unfoldable pub atomic_instruction_of : ℕ → Option AtomicInstr
atomic_instruction_of w = read_off atomic_encodings w
