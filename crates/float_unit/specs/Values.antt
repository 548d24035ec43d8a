-- What the operations of floating point give and raise, by the patterns of their operands. Each is the definition of `rv_floats`, of
-- `rv_float_flags` or of `rv_float_modes`, at an operation that an instruction names.
use Rattle.std.specs.Prelude.{ℕ, ◌^◌, ◌-◌, Bool, ℤ, pos, bit_and, bit_or, unsigned_abs, to_bits, if◌then◌else◌}
use Rattle.std.specs.Int.{int_rem_euclid}
use Rattle.std.specs.Float.{round_to_format}
use Rattle.rv_tables.specs.Fields.{sign_extended}
use Rattle.rv_floats.specs.declared.rounding.Rounding.{Rounding}
use Rattle.rv_floats.specs.declared.rounding.Rounding.TheVariants.{NearestEven, TowardZero, Down, Up, NearestAway}
use Rattle.rv_floats.specs.Comparisons.{minimum, maximum}
use Rattle.rv_floats.specs.Conversions.{signed_word, unsigned_word}
use Rattle.rv_floats.specs.Fused.{multiply_add, multiply_subtract, negated_multiply_subtract, negated_multiply_add}
use Rattle.rv_floats.specs.Signs.{sign_injected, sign_negated, sign_xored}
use Rattle.rv_float_flags.specs.declared.flags.Flags.{Flags}
use Rattle.rv_float_flags.specs.Conversions.{exact_word, is_signed_word, is_unsigned_word, narrowing_flags, widening_flags, word_flags}
use Rattle.rv_float_flags.specs.Flags.{no_flags, rounding_flags}
use Rattle.rv_float_flags.specs.Operations.{add_flags, sub_flags, mul_flags, div_flags, sqrt_flags, multiply_add_flags}
use Rattle.rv_float_flags.specs.Operations.{multiply_subtract_flags, negated_multiply_subtract_flags, negated_multiply_add_flags}
use Rattle.rv_float_flags.specs.Operations.{quiet_flags, ordered_flags}
use Rattle.rv_float_modes.specs.declared.rounded.Rounded.{Rounded}
use Rattle.rv_float_modes.specs.Operations.{add_in, sub_in, mul_in, div_in, sqrt_in, multiply_add_in, multiply_subtract_in}
use Rattle.rv_float_modes.specs.Operations.{negated_multiply_subtract_in, negated_multiply_add_in, narrowed_in, word_in}
use Rattle.rv_float_tables.specs.declared.instr.Format as format
use Rattle.rv_float_tables.specs.declared.instr.Format.TheVariants.{Single, Double}
use Rattle.rv_float_tables.specs.declared.instr.ArithmeticOp.{ArithmeticOp}
use Rattle.rv_float_tables.specs.declared.instr.ArithmeticOp.TheVariants.{Add, Sub, Mul, Div}
use Rattle.rv_float_tables.specs.declared.instr.FusedOp.{FusedOp}
use Rattle.rv_float_tables.specs.declared.instr.FusedOp.TheVariants.{Madd, Msub, Nmsub, Nmadd}
use Rattle.rv_float_tables.specs.declared.instr.SignOp.{SignOp}
use Rattle.rv_float_tables.specs.declared.instr.SignOp.TheVariants.{Sgnj, Sgnjn, Sgnjx}
use Rattle.rv_float_tables.specs.declared.instr.MinMaxOp.{MinMaxOp}
use Rattle.rv_float_tables.specs.declared.instr.MinMaxOp.TheVariants.{Min, Max}
use Rattle.rv_float_tables.specs.declared.instr.CompareOp.{CompareOp}
use Rattle.rv_float_tables.specs.declared.instr.CompareOp.TheVariants.{Feq, Flt, Fle}
use Rattle.rv_float_tables.specs.declared.instr.WordKind.{WordKind}
use Rattle.rv_float_tables.specs.declared.instr.WordKind.TheVariants.{Signed, Unsigned}
use Rattle.rv_float_tables.specs.declared.instr.CsrOp.{CsrOp}
use Rattle.rv_float_tables.specs.declared.instr.CsrOp.TheVariants.{Write, Set, Clear}
use lib.Ieee as Ieee
use lib.Ieee.{Format, binary32, binary64, of_bits}

-- the format of IEEE 754
abbrev pub ieee : format.Format → Format
ieee Single = binary32
ieee Double = binary64

-- ---- arithmetic in a rounding mode

-- To the nearest, ties to even, the value is that of `lib.Ieee`, and the flags are those of `rv_float_flags`. In another mode both are
-- those of `rv_float_modes`. By laws there its own definitions to the nearest, ties to even, are no others.
abbrev pub by_mode : Rounding → (bits : ℕ) → Flags → (otherwise : Rounded) → Rounded
by_mode NearestEven bits flags otherwise = record { bits = bits; flags = flags }
by_mode TowardZero bits flags otherwise = otherwise
by_mode Down bits flags otherwise = otherwise
by_mode Up bits flags otherwise = otherwise
by_mode NearestAway bits flags otherwise = otherwise

-- FADD, FSUB, FMUL, FDIV (sections 11.6, 12.4)
abbrev pub arithmetic : ArithmeticOp → Format → ℕ → ℕ → ℕ
arithmetic Add f a b = to_bits f (Ieee.add f (of_bits f a) (of_bits f b))
arithmetic Sub f a b = to_bits f (Ieee.sub f (of_bits f a) (of_bits f b))
arithmetic Mul f a b = to_bits f (Ieee.mul f (of_bits f a) (of_bits f b))
arithmetic Div f a b = to_bits f (Ieee.div f (of_bits f a) (of_bits f b))

abbrev pub arithmetic_flags : ArithmeticOp → Format → ℕ → ℕ → Flags
arithmetic_flags Add = add_flags
arithmetic_flags Sub = sub_flags
arithmetic_flags Mul = mul_flags
arithmetic_flags Div = div_flags

abbrev pub arithmetic_otherwise : ArithmeticOp → Rounding → Format → ℕ → ℕ → Rounded
arithmetic_otherwise Add = add_in
arithmetic_otherwise Sub = sub_in
arithmetic_otherwise Mul = mul_in
arithmetic_otherwise Div = div_in

abbrev pub arithmetic_in : ArithmeticOp → Rounding → Format → ℕ → ℕ → Rounded
arithmetic_in op mode f a b = by_mode mode (arithmetic op f a b) (arithmetic_flags op f a b) (arithmetic_otherwise op mode f a b)

-- FMADD, FMSUB, FNMSUB, FNMADD (sections 11.6, 12.4)
abbrev pub fused : FusedOp → Format → ℕ → ℕ → ℕ → ℕ
fused Madd f a b c = to_bits f (multiply_add f (of_bits f a) (of_bits f b) (of_bits f c))
fused Msub f a b c = to_bits f (multiply_subtract f (of_bits f a) (of_bits f b) (of_bits f c))
fused Nmsub f a b c = to_bits f (negated_multiply_subtract f (of_bits f a) (of_bits f b) (of_bits f c))
fused Nmadd f a b c = to_bits f (negated_multiply_add f (of_bits f a) (of_bits f b) (of_bits f c))

abbrev pub fused_flags : FusedOp → Format → ℕ → ℕ → ℕ → Flags
fused_flags Madd = multiply_add_flags
fused_flags Msub = multiply_subtract_flags
fused_flags Nmsub = negated_multiply_subtract_flags
fused_flags Nmadd = negated_multiply_add_flags

abbrev pub fused_otherwise : FusedOp → Rounding → Format → ℕ → ℕ → ℕ → Rounded
fused_otherwise Madd = multiply_add_in
fused_otherwise Msub = multiply_subtract_in
fused_otherwise Nmsub = negated_multiply_subtract_in
fused_otherwise Nmadd = negated_multiply_add_in

abbrev pub fused_in : FusedOp → Rounding → Format → ℕ → ℕ → ℕ → Rounded
fused_in op mode f a b c = by_mode mode (fused op f a b c) (fused_flags op f a b c) (fused_otherwise op mode f a b c)

-- FSQRT (sections 11.6, 12.4)
abbrev pub square_root : Format → ℕ → ℕ
square_root f a = to_bits f (Ieee.sqrt f (of_bits f a))

unfoldable pub square_root_in : Rounding → Format → ℕ → Rounded
square_root_in mode f a = by_mode mode (square_root f a) (sqrt_flags f a) (sqrt_in mode f a)

-- ---- signs and comparisons

-- FMIN, FMAX
abbrev pub min_max : MinMaxOp → Format → ℕ → ℕ → ℕ
min_max Min f a b = to_bits f (minimum (of_bits f a) (of_bits f b))
min_max Max f a b = to_bits f (maximum (of_bits f a) (of_bits f b))

-- FSGNJ, FSGNJN, FSGNJX (sections 11.7, 12.5)
abbrev pub signed_as : SignOp → Format → ℕ → ℕ → ℕ
signed_as Sgnj = sign_injected
signed_as Sgnjn = sign_negated
signed_as Sgnjx = sign_xored

-- FEQ, FLT, FLE (sections 11.8, 12.6)
abbrev pub compares : CompareOp → Format → ℕ → ℕ → Bool
compares Feq f a b = Ieee.eq (of_bits f a) (of_bits f b)
compares Flt f a b = Ieee.lt (of_bits f a) (of_bits f b)
compares Fle f a b = Ieee.le (of_bits f a) (of_bits f b)

abbrev pub compare_flags : CompareOp → Format → ℕ → ℕ → Flags
compare_flags Feq = quiet_flags
compare_flags Flt = ordered_flags
compare_flags Fle = ordered_flags

-- 1 where a comparison holds, else 0
abbrev pub flag : Bool → ℕ
flag b = if b then 1 else 0

-- ---- conversions (sections 11.7, 12.5)

-- the register of a signed number: its two's complement
abbrev pub complement : ℤ → ℕ
complement z = unsigned_abs (int_rem_euclid z (pos (2 ^ 32)))

-- FCVT.W, FCVT.WU
abbrev pub word : WordKind → Rounding → Format → ℕ → ℕ
word Signed mode f a = complement (signed_word mode f (of_bits f a))
word Unsigned mode f a = unsigned_word mode f (of_bits f a)

abbrev pub flags_of_word : WordKind → Rounding → Format → ℕ → Flags
flags_of_word Signed mode f a = word_flags is_signed_word mode f (of_bits f a)
flags_of_word Unsigned mode f a = word_flags is_unsigned_word mode f (of_bits f a)

-- the whole number that an integer register has
abbrev pub whole : WordKind → ℕ → ℤ
whole Signed x = sign_extended 32 x
whole Unsigned x = pos x

-- FCVT.S.W, FCVT.S.WU and those of doubles, which have each word, so that these are exact in any mode
abbrev pub from_word : Format → ℤ → ℕ
from_word f z = to_bits f (Ieee.of_int f z)

abbrev pub from_word_in : format.Format → Rounding → ℤ → Rounded
from_word_in Single mode z = by_mode mode (from_word binary32 z) (rounding_flags binary32 (exact_word z)) (word_in mode z)
from_word_in Double mode z = record { bits = from_word binary64 z; flags = no_flags }

-- FCVT.S.D, of a double; FCVT.D.S, of a single, all of which are doubles, so that it is exact in any mode
abbrev pub converted : format.Format → ℕ → ℕ
converted Single a = to_bits binary32 (round_to_format binary32 (of_bits binary64 a))
converted Double a = to_bits binary64 (of_bits binary32 a)

abbrev pub converted_in : format.Format → Rounding → ℕ → Rounded
converted_in Single mode a = by_mode mode (converted Single a) (narrowing_flags a) (narrowed_in mode a)
converted_in Double mode a = record { bits = converted Double a; flags = widening_flags a }

-- ---- what is written to a CSR, by its value and the operand (section 9.1)

abbrev pub csr_written : CsrOp → ℕ → ℕ → ℕ
csr_written Write old operand = operand
csr_written Set old operand = bit_or old operand
csr_written Clear old operand = bit_and old (2 ^ 32 - 1 - operand)
