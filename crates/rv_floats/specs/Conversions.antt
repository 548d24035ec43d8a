-- Conversions between floats and words, and singles in wide registers (RISC-V Unprivileged ISA 20191213, sections 11.2, 11.7, 12.2
-- and 12.5; IEEE 754-2008, sections 5.4.1, 5.8 and 5.9).
use Rattle.std.specs.Prelude.{ℕ, ◌+◌, ◌-◌, ◌*◌, ◌/◌, ◌%◌, ◌^◌, ◌==◌, ℤ, pos, is_nan, if◌then◌else◌}
use Rattle.std.specs.Float.{trunc, floor, ceil, float_round, round_ties_even}
use Rattle.rv_floats.specs.declared.rounding.Rounding.{Rounding}
use Rattle.rv_floats.specs.declared.rounding.Rounding.TheVariants.{NearestEven, TowardZero, Down, Up, NearestAway}
use Rattle.rv_floats.specs.Nan.{canonical_nan}
use lib.Ieee.{Float, Format, binary32, binary64, to_signed, to_unsigned}

-- a value rounded to a whole number in a rounding mode (table 11.1); infinities and NaNs stay
abbrev pub rounded_whole : Rounding → Format → Float → Float
rounded_whole NearestEven = round_ties_even
rounded_whole TowardZero = trunc
rounded_whole Down = floor
rounded_whole Up = ceil
rounded_whole NearestAway = float_round

-- FCVT.W: the rounded value, or the nearest end of the range where it is outside, and the upper end for a NaN (table 11.4)
abbrev pub signed_word : Rounding → Format → Float → ℤ
signed_word mode f x = if is_nan x then pos (2 ^ 31 - 1) else to_signed 31 (rounded_whole mode f x)

-- FCVT.WU, alike
abbrev pub unsigned_word : Rounding → Format → Float → ℕ
unsigned_word mode f x = if is_nan x then 2 ^ 32 - 1 else to_unsigned 32 (rounded_whole mode f x)

-- a single in a register of 64 bits: the upper bits are all ones (section 12.2)
abbrev pub boxed : ℕ → ℕ
boxed a = (2 ^ 32 - 1) * 2 ^ 32 + a

-- the single of a register: its lower half where the upper bits are all ones, and else the canonical NaN
abbrev pub unboxed : ℕ → ℕ
unboxed r = if r / 2 ^ 32 == 2 ^ 32 - 1 then r % 2 ^ 32 else canonical_nan binary32

-- a pattern of a format as a register of 64 bits has it, and the pattern that a register has
abbrev pub in_register : Format → ℕ → ℕ
in_register binary32 a = boxed a
in_register binary64 a = a

abbrev pub of_register : Format → ℕ → ℕ
of_register binary32 r = unboxed r
of_register binary64 r = r
