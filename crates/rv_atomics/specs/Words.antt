-- The words of the rows (RISC-V Unprivileged ISA 20191213, section 2.2 "Base Instruction Formats" and chapter 8): format R, in which funct7
-- is funct5 and behind it the bits aq and rl.
use Rattle.std.specs.Prelude.{◌≡◌, ℕ, ◌*◌, ◌^◌, List, Option, Some, bit_and}
use Rattle.rv_atomics.specs.declared.instr.AtomicForm.{AtomicForm}
use Rattle.rv_atomics.specs.declared.instr.AtomicInstr.{AtomicInstr}
use Rattle.rv_atomics.specs.declared.instr.Order.{Order}
use Rattle.rv_atomics.specs.declared.instr.Order.TheVariants.{Unordered, Release, Acquire, Sequential}
use Rattle.rv_atomics.specs.Mnemonics.{atomic_row_named}
use Rattle.rv_atomics.specs.Rows.{AtomicEncoding}

-- aq and rl as a number of two bits, aq the higher one
abbrev pub order_code : Order → ℕ
order_code Unordered = 0b00
order_code Release = 0b01
order_code Acquire = 0b10
order_code Sequential = 0b11

-- a row by the value of the bits that it fixes
abbrev pub row_of : (mask value : ℕ) → AtomicForm → (ℕ → AtomicInstr) → AtomicEncoding
row_of mask value form read = record { row = record { mask = mask; value = value; form = form }; read = read }

-- the row with this name has this value, which has no bits outside the row's mask
pub record IsRowValue (mask : ℕ) (form : AtomicForm) (read : ℕ → AtomicInstr) (name : List ℕ) (value : ℕ) : Type 0 where
  pub row : atomic_row_named name ≡ Some (row_of mask value form read)
  pub own : bit_and value mask ≡ value
