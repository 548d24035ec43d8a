-- Which sums, products, quotients and roots are known at once to raise no new flags, which are those that are not there, without
-- rounding them once more: finite ones, tiny only if they are exact, that may be inexact, or cannot be. These are no words of the manual.
-- They say for whom an operation is quick, and change no result: another one may raise nothing either.
use Rattle.std.specs.Prelude.{ℕ, ◌+◌, ◌%◌, ◌^◌, ◌==◌, Bool, not, ◌&&◌, ◌||◌, nat_lt, nat_le}
use Rattle.rv_float_flags.specs.declared.flags.Flags.{Flags}
use Rattle.std.specs.Float.{float_zero}
use Rattle.rv_float_flags.specs.Scaled.{exponent, single_exponent}
use lib.Ieee.{Format, binary32, binary64, lt, of_bits}

-- ---- of doubles

-- by its pattern neither an infinity nor a NaN
abbrev pub is_finite : ℕ → Bool
is_finite a = nat_lt (exponent a) 2047

-- less than 2 ^ 1022 in size, so that a sum of two is finite
abbrev pub is_moderate : ℕ → Bool
is_moderate a = nat_lt (exponent a) 2045

-- By their exponents, which are 1023 above the powers of two, the product of two is neither tiny nor infinite: it is at least
-- 2 ^ -1021, if both are normal 2 ^ -970, and less than 2 ^ 1022.
abbrev pub is_product_moderate : ℕ → ℕ → Bool
is_product_moderate a b = nat_le 1076 (exponent a + exponent b) && nat_le (exponent a + exponent b) 3066

-- The last 27 of the 53 digits of both are zeros, so that their product has 52 digits at most.
abbrev pub are_short : ℕ → ℕ → Bool
are_short a b = a % 2 ^ 27 == 0 && b % 2 ^ 27 == 0

-- They lie at most 26 binary places apart, so that the sum of two short ones has 53 digits at most.
abbrev pub are_near : ℕ → ℕ → Bool
are_near a b = nat_le (exponent a) (exponent b + 26) && nat_le (exponent b) (exponent a + 26)

-- by its pattern neither infinite nor a NaN, and all of its 53 digits count
abbrev pub is_normal : ℕ → Bool
is_normal a = nat_le 1 (exponent a) && nat_le (exponent a) 2046

-- They lie at most 1021 binary places apart, so that the quotient of two normal ones is neither tiny nor infinite.
abbrev pub are_within_range : ℕ → ℕ → Bool
are_within_range a b = nat_le (exponent a) (exponent b + 1021) && nat_le (exponent b) (exponent a + 1021)

-- One of two is zero, of either sign, so that sum and product are exact.
abbrev pub has_zero : ℕ → ℕ → Bool
has_zero a b = a % 2 ^ 63 == 0 || b % 2 ^ 63 == 0

-- of a sum, and of a difference
abbrev pub double_sum_raises_no_new_flags : Flags → ℕ → ℕ → Bool
double_sum_raises_no_new_flags flags a b =
    is_moderate a && is_moderate b && (flags.nx || (are_short a b && are_near a b) || has_zero a b)

-- of a product
abbrev pub double_product_raises_no_new_flags : Flags → ℕ → ℕ → Bool
double_product_raises_no_new_flags flags a b =
    is_finite a && is_finite b && ((is_product_moderate a b && (flags.nx || are_short a b)) || has_zero a b)

-- of a quotient
abbrev pub double_quotient_raises_no_new_flags : Flags → ℕ → ℕ → Bool
double_quotient_raises_no_new_flags flags a b = flags.nx && is_normal a && is_normal b && are_within_range a b

-- of a root: none is tiny or infinite
abbrev pub double_root_raises_no_new_flags : Flags → ℕ → Bool
double_root_raises_no_new_flags flags a = flags.nx && is_finite a && not (lt (of_bits binary64 a) float_zero)

-- ---- of singles, in the same way: where NX is there, and a product with a zero

abbrev pub is_single_finite : ℕ → Bool
is_single_finite a = nat_lt (single_exponent a) 255

-- less than 2 ^ 126 in size, so that a sum of two is finite
abbrev pub is_single_moderate : ℕ → Bool
is_single_moderate a = nat_lt (single_exponent a) 253

-- from 2 ^ -63 to 2 ^ 63 in size, so that neither a product nor a quotient of two is tiny or infinite
abbrev pub is_single_middling : ℕ → Bool
is_single_middling a = nat_le 64 (single_exponent a) && nat_lt (single_exponent a) 190

abbrev pub single_sum_raises_no_new_flags : Flags → ℕ → ℕ → Bool
single_sum_raises_no_new_flags flags a b = flags.nx && is_single_moderate a && is_single_moderate b

abbrev pub single_product_raises_no_new_flags : Flags → ℕ → ℕ → Bool
single_product_raises_no_new_flags flags a b =
    (flags.nx && is_single_middling a && is_single_middling b)
    || (is_single_finite a && is_single_finite b && (a % 2 ^ 31 == 0 || b % 2 ^ 31 == 0))

abbrev pub single_quotient_raises_no_new_flags : Flags → ℕ → ℕ → Bool
single_quotient_raises_no_new_flags flags a b = flags.nx && is_single_middling a && is_single_middling b

abbrev pub single_root_raises_no_new_flags : Flags → ℕ → Bool
single_root_raises_no_new_flags flags a = flags.nx && is_single_finite a && not (lt (of_bits binary32 a) float_zero)

-- ---- of both formats

abbrev pub sum_raises_no_new_flags : Format → Flags → ℕ → ℕ → Bool
sum_raises_no_new_flags binary32 = single_sum_raises_no_new_flags
sum_raises_no_new_flags binary64 = double_sum_raises_no_new_flags

abbrev pub product_raises_no_new_flags : Format → Flags → ℕ → ℕ → Bool
product_raises_no_new_flags binary32 = single_product_raises_no_new_flags
product_raises_no_new_flags binary64 = double_product_raises_no_new_flags

abbrev pub quotient_raises_no_new_flags : Format → Flags → ℕ → ℕ → Bool
quotient_raises_no_new_flags binary32 = single_quotient_raises_no_new_flags
quotient_raises_no_new_flags binary64 = double_quotient_raises_no_new_flags

abbrev pub root_raises_no_new_flags : Format → Flags → ℕ → Bool
root_raises_no_new_flags binary32 = single_root_raises_no_new_flags
root_raises_no_new_flags binary64 = double_root_raises_no_new_flags
