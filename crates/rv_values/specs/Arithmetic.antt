-- What the instructions compute from registers and immediates, in whole numbers (RISC-V Unprivileged ISA 20191213,
-- section 2.4 "Integer Computational Instructions", section 2.5 "Control Transfer Instructions", chapter 7 "M").
-- A register is the number from 0 to 2 ^ 32 - 1 that its bits are without sign.
use Rattle.std.specs.Prelude.{ℕ, ◌+◌, ◌-◌, ◌*◌, ◌/◌, ◌%◌, ◌^◌, ◌==◌, Bool, not, nat_lt, if◌then◌else◌, bit_and, bit_or, bit_xor, ℤ, pos}
use Rattle.std.specs.Prelude.{◌+ℤ◌, ◌-ℤ◌, ◌*ℤ◌, int_lt, int_div, int_rem, unsigned_abs}
use Rattle.std.specs.Int.{int_div_euclid, int_rem_euclid}
use Rattle.rv_tables.specs.Fields.{sign_extended}
use Rattle.rv_tables.specs.declared.instr.ROp.{ROp}
use Rattle.rv_tables.specs.declared.instr.ROp.TheVariants.{Add, Sub, Sll, Slt, Sltu, Xor, Srl, Sra, Or, And, Mul, Mulh, Mulhsu, Mulhu, Div}
use Rattle.rv_tables.specs.declared.instr.ROp.TheVariants.{Divu, Rem, Remu}
use Rattle.rv_tables.specs.declared.instr.IOp.{IOp}
use Rattle.rv_tables.specs.declared.instr.IOp.TheVariants.{Addi, Slti, Sltiu, Xori, Ori, Andi}
use Rattle.rv_tables.specs.declared.instr.ShiftOp.{ShiftOp}
use Rattle.rv_tables.specs.declared.instr.ShiftOp.TheVariants.{Slli, Srli, Srai}
use Rattle.rv_tables.specs.declared.instr.UpperOp.{UpperOp}
use Rattle.rv_tables.specs.declared.instr.UpperOp.TheVariants.{Lui, Auipc}
use Rattle.rv_tables.specs.declared.instr.BranchOp.{BranchOp}
use Rattle.rv_tables.specs.declared.instr.BranchOp.TheVariants.{Beq, Bne, Blt, Bge, Bltu, Bgeu}

-- a register's value in two's complement
abbrev pub signed : ℕ → ℤ
signed a = sign_extended 32 a

-- the remainder of an integer modulo 2 ^ 32
abbrev pub modulo : ℤ → ℕ
modulo z = unsigned_abs (int_rem_euclid z (pos (2 ^ 32)))

-- an integer divided by a number, rounded down
abbrev pub floor_div : ℤ → ℕ → ℤ
floor_div z n = int_div_euclid z (pos n)

-- 1 where a test holds, else 0
abbrev pub flag : Bool → ℕ
flag b = if b then 1 else 0

abbrev pub r_value : ROp → ℕ → ℕ → ℕ
r_value Add a b = (a + b) % 2 ^ 32
r_value Sub a b = modulo (pos a -ℤ pos b)
r_value Sll a b = a * 2 ^ (b % 32) % 2 ^ 32
r_value Slt a b = flag (int_lt (signed a) (signed b))
r_value Sltu a b = flag (nat_lt a b)
r_value Xor a b = bit_xor a b
r_value Srl a b = a / 2 ^ (b % 32)
r_value Sra a b = modulo (floor_div (signed a) (2 ^ (b % 32)))
r_value Or a b = bit_or a b
r_value And a b = bit_and a b
r_value Mul a b = modulo (signed a *ℤ signed b)
r_value Mulh a b = modulo (floor_div (signed a *ℤ signed b) (2 ^ 32))
r_value Mulhsu a b = modulo (floor_div (signed a *ℤ pos b) (2 ^ 32))
r_value Mulhu a b = a * b / 2 ^ 32
r_value Div a b = if b == 0 then 2 ^ 32 - 1 else modulo (int_div (signed a) (signed b))
r_value Divu a b = if b == 0 then 2 ^ 32 - 1 else a / b
r_value Rem a b = if b == 0 then a else modulo (int_rem (signed a) (signed b))
r_value Remu a b = if b == 0 then a else a % b

abbrev pub i_value : IOp → ℕ → ℤ → ℕ
i_value Addi a imm = modulo (pos a +ℤ imm)
i_value Slti a imm = flag (int_lt (signed a) imm)
i_value Sltiu a imm = flag (nat_lt a (modulo imm))
i_value Xori a imm = bit_xor a (modulo imm)
i_value Ori a imm = bit_or a (modulo imm)
i_value Andi a imm = bit_and a (modulo imm)

abbrev pub shift_value : ShiftOp → ℕ → ℕ → ℕ
shift_value Slli a k = a * 2 ^ k % 2 ^ 32
shift_value Srli a k = a / 2 ^ k
shift_value Srai a k = modulo (floor_div (signed a) (2 ^ k))

abbrev pub upper_value : UpperOp → ℕ → ℕ → ℕ
upper_value Lui pc imm = imm * 4096 % 2 ^ 32
upper_value Auipc pc imm = (pc + imm * 4096) % 2 ^ 32

-- a branch is taken
abbrev pub is_taken : BranchOp → ℕ → ℕ → Bool
is_taken Beq a b = a == b
is_taken Bne a b = not (a == b)
is_taken Blt a b = int_lt (signed a) (signed b)
is_taken Bge a b = not (int_lt (signed a) (signed b))
is_taken Bltu a b = nat_lt a b
is_taken Bgeu a b = not (nat_lt a b)
