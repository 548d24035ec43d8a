-- The flags of each operation (IEEE 754-2008, sections 7.2 "Invalid operation" and 7.3 "Division by zero"; RISC-V Unprivileged ISA
-- 20191213, sections 11.6, 11.8, 12.4 and 12.6). Arithmetic on a quiet NaN raises nothing, but for a
-- fused product of 0 and infinity, and on a signaling one invalid alone.
use Rattle.std.specs.Prelude.{ℕ, ◌*◌, ◌==◌, Bool, not, ◌&&◌, ◌||◌, is_nan, if◌then◌else◌}
use Rattle.std.specs.Float.{float_zero, float_is_finite, float_is_infinite, is_sign_negative}
use Rattle.rv_floats.specs.Classes.{is_signaling}
use Rattle.rv_float_flags.specs.declared.flags.Flags.{Flags}
use Rattle.rv_float_flags.specs.Exact.{exact_sum, exact_product, exact_quotient, exact_fused}
use Rattle.rv_float_flags.specs.Flags.{no_flags, invalid, divided_by_zero, invalid_if, inexact_if, rounding_flags}
use lib.Ieee.{Float, Format, eq, lt, mul, neg, of_bits, sqrt, unlike}
use lib.Ieee.Positive.{num, den}

abbrev pub is_zero : Float → Bool
is_zero x = eq x float_zero

-- ---- what is invalid, of operands that are no signaling NaNs

-- infinity - infinity
abbrev pub is_invalid_sum : Float → Float → Bool
is_invalid_sum x y = float_is_infinite x && float_is_infinite y && unlike (is_sign_negative x) (is_sign_negative y)

-- 0 * infinity
abbrev pub is_invalid_product : Float → Float → Bool
is_invalid_product x y = (float_is_infinite x && is_zero y) || (is_zero x && float_is_infinite y)

-- 0 / 0 and infinity / infinity
abbrev pub is_invalid_quotient : Float → Float → Bool
is_invalid_quotient x y = (is_zero x && is_zero y) || (float_is_infinite x && float_is_infinite y)

-- Division by zero is of a finite dividend; where that is zero, it is invalid.
abbrev pub is_division_by_zero : Float → Float → Bool
is_division_by_zero x y = float_is_finite x && is_zero y

-- 0 * infinity whatever the addend, and a product that is infinite with the infinity of the other sign
abbrev pub is_invalid_fused : Format → Float → Float → Float → Bool
is_invalid_fused f x y z =
    is_invalid_product x y || ((float_is_infinite x || float_is_infinite y) && is_invalid_sum (mul f x y) z)

-- ---- the flags of operations on values

abbrev pub sum_flags : Format → Float → Float → Flags
sum_flags f x y =
    if float_is_finite x && float_is_finite y then rounding_flags f (exact_sum x y) else invalid_if (is_invalid_sum x y)

abbrev pub product_flags : Format → Float → Float → Flags
product_flags f x y =
    if float_is_finite x && float_is_finite y then rounding_flags f (exact_product x y) else invalid_if (is_invalid_product x y)

abbrev pub quotient_flags : Format → Float → Float → Flags
quotient_flags f x y =
    if is_invalid_quotient x y then invalid else
    if is_division_by_zero x y then divided_by_zero else
    if float_is_finite x && float_is_finite y then rounding_flags f (exact_quotient x y) else no_flags

-- z is finite, and its square is x
abbrev pub is_root : Float → Float → Bool
is_root z x = float_is_finite z && num z * num z * den x == num x * (den z * den z)

-- the root of a number below zero is invalid; no root overflows or underflows
abbrev pub root_flags : Format → Float → Flags
root_flags f x =
    if lt x float_zero then invalid else
    if float_is_finite x then inexact_if (not (is_root (sqrt f x) x)) else no_flags

abbrev pub fused_flags : Format → Float → Float → Float → Flags
fused_flags f x y z =
    if float_is_finite x && float_is_finite y && float_is_finite z then rounding_flags f (exact_fused x y z) else
    invalid_if (is_invalid_fused f x y z)

-- ---- the flags of instructions, by their operands' patterns

abbrev pub any_signaling : Format → ℕ → ℕ → Bool
any_signaling f a b = is_signaling f a || is_signaling f b

-- FADD, FSUB, FMUL, FDIV, FSQRT
abbrev pub add_flags : Format → ℕ → ℕ → Flags
add_flags f a b = if any_signaling f a b then invalid else sum_flags f (of_bits f a) (of_bits f b)

abbrev pub sub_flags : Format → ℕ → ℕ → Flags
sub_flags f a b = if any_signaling f a b then invalid else sum_flags f (of_bits f a) (neg (of_bits f b))

abbrev pub mul_flags : Format → ℕ → ℕ → Flags
mul_flags f a b = if any_signaling f a b then invalid else product_flags f (of_bits f a) (of_bits f b)

abbrev pub div_flags : Format → ℕ → ℕ → Flags
div_flags f a b = if any_signaling f a b then invalid else quotient_flags f (of_bits f a) (of_bits f b)

abbrev pub sqrt_flags : Format → ℕ → Flags
sqrt_flags f a = if is_signaling f a then invalid else root_flags f (of_bits f a)

-- FMADD, FMSUB, FNMSUB, FNMADD
abbrev pub multiply_add_flags : Format → ℕ → ℕ → ℕ → Flags
multiply_add_flags f a b c =
    if any_signaling f a b || is_signaling f c then invalid else fused_flags f (of_bits f a) (of_bits f b) (of_bits f c)

abbrev pub multiply_subtract_flags : Format → ℕ → ℕ → ℕ → Flags
multiply_subtract_flags f a b c =
    if any_signaling f a b || is_signaling f c then invalid else fused_flags f (of_bits f a) (of_bits f b) (neg (of_bits f c))

abbrev pub negated_multiply_subtract_flags : Format → ℕ → ℕ → ℕ → Flags
negated_multiply_subtract_flags f a b c =
    if any_signaling f a b || is_signaling f c then invalid else fused_flags f (neg (of_bits f a)) (of_bits f b) (of_bits f c)

abbrev pub negated_multiply_add_flags : Format → ℕ → ℕ → ℕ → Flags
negated_multiply_add_flags f a b c =
    if any_signaling f a b || is_signaling f c then invalid else
    fused_flags f (neg (of_bits f a)) (of_bits f b) (neg (of_bits f c))

-- FEQ, FMIN, FMAX: a signaling NaN is invalid
abbrev pub quiet_flags : Format → ℕ → ℕ → Flags
quiet_flags f a b = invalid_if (any_signaling f a b)

-- FLT, FLE: any NaN is
abbrev pub ordered_flags : Format → ℕ → ℕ → Flags
ordered_flags f a b = invalid_if (is_nan (of_bits f a) || is_nan (of_bits f b))
