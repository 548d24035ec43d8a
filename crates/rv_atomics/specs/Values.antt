-- What an atomic memory operation stores, of the word that it loads and of the value in rs2 (RISC-V Unprivileged ISA 20191213, section 8.4
-- "Atomic Memory Operations"): "swap, integer add, bitwise AND, bitwise OR, bitwise XOR, and signed and unsigned integer maximum and
-- minimum".
use Rattle.std.specs.Prelude.{ℕ, ◌+◌, ◌%◌, ◌^◌, nat_lt, if◌then◌else◌, bit_and, bit_or, bit_xor, int_lt}
use Rattle.rv_values.specs.Arithmetic.{signed}
use Rattle.rv_atomics.specs.declared.instr.AmoOp.{AmoOp}
use Rattle.rv_atomics.specs.declared.instr.AmoOp.TheVariants.{Swap, Add, Xor, And, Or, Min, Max, Minu, Maxu}

abbrev pub amo_value : AmoOp → (loaded operand : ℕ) → ℕ
amo_value Swap a b = b
amo_value Add a b = (a + b) % 2 ^ 32
amo_value Xor a b = bit_xor a b
amo_value And a b = bit_and a b
amo_value Or a b = bit_or a b
amo_value Min a b = if int_lt (signed b) (signed a) then b else a
amo_value Max a b = if int_lt (signed a) (signed b) then b else a
amo_value Minu a b = if nat_lt b a then b else a
amo_value Maxu a b = if nat_lt a b then b else a
