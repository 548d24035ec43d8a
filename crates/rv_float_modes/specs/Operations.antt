-- Operations in a rounding mode (IEEE 754-2008, sections 4.3, 5.4.1, 6.3 and 7; RISC-V Unprivileged ISA 20191213, sections 11.2, 11.6,
-- 11.7, 12.4 and 12.5). Where an operand is an infinity or a NaN, or the divisor is zero, the result and the flags are the same in each
-- mode.
use Rattle.std.specs.Prelude.{ℕ, ◌*◌, ◌/◌, ◌^◌, ℤ, Bool, true, false, not, ◌&&◌, int_lt, nat_lt, pos, to_bits, if◌then◌else◌}
use Rattle.std.specs.Float.{float_is_finite, is_sign_negative, round_to_format}
use Rattle.rv_floats.specs.Fused.{multiply_add, multiply_subtract, negated_multiply_add, negated_multiply_subtract}
use Rattle.rv_floats.specs.declared.rounding.Rounding.{Rounding}
use Rattle.rv_floats.specs.declared.rounding.Rounding.TheVariants.{NearestEven, TowardZero, Down, Up, NearestAway}
use Rattle.rv_float_flags.specs.Conversions.{exact_word, narrowing_flags}
use Rattle.rv_float_flags.specs.Exact.{Ratio, exact_fused, exact_product, exact_quotient, exact_sum, exact_value}
use Rattle.rv_float_flags.specs.Operations.{add_flags, div_flags, mul_flags, multiply_add_flags, multiply_subtract_flags}
use Rattle.rv_float_flags.specs.Operations.{negated_multiply_add_flags, negated_multiply_subtract_flags, sqrt_flags, sub_flags}
use Rattle.rv_float_flags.specs.declared.flags.Flags.{Flags}
use Rattle.rv_float_modes.specs.declared.rounded.Rounded.{Rounded}
use Rattle.rv_float_modes.specs.Modes.{rounding_in}
use lib.Ieee.{Float, Format, binary32, binary64, add, div, mul, neg, of_bits, root_twice, sqrt, sub, unlike}
use lib.Ieee.Positive.{num, den}

-- what rounding makes of finite operands, and what is there of others
abbrev pub either : Bool → Rounded → ℕ → Flags → Rounded
either is_finite rounded bits flags = if is_finite then rounded else record { bits = bits; flags = flags }

-- ---- FMUL

abbrev pub product_in : Rounding → Format → Float → Float → Rounded
product_in mode f x y = rounding_in mode (unlike (is_sign_negative x) (is_sign_negative y)) f (exact_product x y)

abbrev pub mul_in : Rounding → Format → ℕ → ℕ → Rounded
mul_in mode f a b =
    let x = of_bits f a in
    let y = of_bits f b in
    either (float_is_finite x && float_is_finite y) (product_in mode f x y) (to_bits f (mul f x y)) (mul_flags f a b)

-- ---- FADD, FSUB

abbrev pub is_down : Rounding → Bool
is_down NearestEven = false
is_down TowardZero = false
is_down Down = true
is_down Up = false
is_down NearestAway = false

-- The sign of a sum, by the signs and the magnitudes of its terms. A sum of terms with different signs that is exactly zero is +0, but
-- -0 in the mode Down (section 6.3).
abbrev pub sign_of_sum : Rounding → Bool → Bool → ℕ → ℕ → Bool
sign_of_sum mode s t a b = if unlike s t then (if nat_lt a b then t else if nat_lt b a then s else is_down mode) else s

abbrev pub sum_in : Rounding → Format → Float → Float → Rounded
sum_in mode f x y =
    rounding_in mode (sign_of_sum mode (is_sign_negative x) (is_sign_negative y) (num x * den y) (num y * den x)) f (exact_sum x y)

abbrev pub add_in : Rounding → Format → ℕ → ℕ → Rounded
add_in mode f a b =
    let x = of_bits f a in
    let y = of_bits f b in
    either (float_is_finite x && float_is_finite y) (sum_in mode f x y) (to_bits f (add f x y)) (add_flags f a b)

abbrev pub sub_in : Rounding → Format → ℕ → ℕ → Rounded
sub_in mode f a b =
    let x = of_bits f a in
    let y = of_bits f b in
    either (float_is_finite x && float_is_finite y) (sum_in mode f x (neg y)) (to_bits f (sub f x y)) (sub_flags f a b)

-- ---- FMADD, FMSUB, FNMSUB, FNMADD

abbrev pub fused_in : Rounding → Format → Float → Float → Float → Rounded
fused_in mode f x y z =
    let product_negative = unlike (is_sign_negative x) (is_sign_negative y) in
    let negative = sign_of_sum mode product_negative (is_sign_negative z) (num x * num y * den z) (num z * (den x * den y)) in
    rounding_in mode negative f (exact_fused x y z)

abbrev pub multiply_add_in : Rounding → Format → ℕ → ℕ → ℕ → Rounded
multiply_add_in mode f a b c =
    let x = of_bits f a in
    let y = of_bits f b in
    let z = of_bits f c in
    either (float_is_finite x && float_is_finite y && float_is_finite z) (fused_in mode f x y z) (to_bits f (multiply_add f x y z))
    (multiply_add_flags f a b c)

abbrev pub multiply_subtract_in : Rounding → Format → ℕ → ℕ → ℕ → Rounded
multiply_subtract_in mode f a b c =
    let x = of_bits f a in
    let y = of_bits f b in
    let z = of_bits f c in
    either (float_is_finite x && float_is_finite y && float_is_finite z) (fused_in mode f x y (neg z))
    (to_bits f (multiply_subtract f x y z)) (multiply_subtract_flags f a b c)

abbrev pub negated_multiply_subtract_in : Rounding → Format → ℕ → ℕ → ℕ → Rounded
negated_multiply_subtract_in mode f a b c =
    let x = of_bits f a in
    let y = of_bits f b in
    let z = of_bits f c in
    either (float_is_finite x && float_is_finite y && float_is_finite z) (fused_in mode f (neg x) y z)
    (to_bits f (negated_multiply_subtract f x y z)) (negated_multiply_subtract_flags f a b c)

abbrev pub negated_multiply_add_in : Rounding → Format → ℕ → ℕ → ℕ → Rounded
negated_multiply_add_in mode f a b c =
    let x = of_bits f a in
    let y = of_bits f b in
    let z = of_bits f c in
    either (float_is_finite x && float_is_finite y && float_is_finite z) (fused_in mode f (neg x) y (neg z))
    (to_bits f (negated_multiply_add f x y z)) (negated_multiply_add_flags f a b c)

-- ---- FDIV

abbrev pub quotient_in : Rounding → Format → Float → Float → Rounded
quotient_in mode f x y = rounding_in mode (unlike (is_sign_negative x) (is_sign_negative y)) f (exact_quotient x y)

-- finite, and not zero
abbrev pub is_nonzero : Float → Bool
is_nonzero y = float_is_finite y && nat_lt 0 (num y)

abbrev pub div_in : Rounding → Format → ℕ → ℕ → Rounded
div_in mode f a b =
    let x = of_bits f a in
    let y = of_bits f b in
    either (float_is_finite x && is_nonzero y) (quotient_in mode f x y) (to_bits f (div f x y)) (div_flags f a b)

-- ---- FSQRT

-- A root is no fraction. This one stands for it, as in `lib.Ieee.sqrt`: the root's whole multiples of 2 ^ -2271, and half of one more
-- where the root goes on. Each value of a format, and what is halfway between two, is a whole number of such multiples, so that none
-- lies between the root and this.
abbrev pub exact_root : Float → Ratio
exact_root x = record { numerator = root_twice (num x * 2 ^ 4542 / den x); denominator = 2 ^ 2272 }

-- of what is above zero
abbrev pub sqrt_in : Rounding → Format → ℕ → Rounded
sqrt_in mode f a =
    let x = of_bits f a in
    either (is_nonzero x && not (is_sign_negative x)) (rounding_in mode false f (exact_root x)) (to_bits f (sqrt f x)) (sqrt_flags f a)

-- ---- FCVT.S.D, FCVT.S.W, FCVT.S.WU

abbrev pub narrowed_in : Rounding → ℕ → Rounded
narrowed_in mode a =
    let x = of_bits binary64 a in
    either (float_is_finite x) (rounding_in mode (is_sign_negative x) binary32 (exact_value x))
    (to_bits binary32 (round_to_format binary32 x)) (narrowing_flags a)

abbrev pub word_in : Rounding → ℤ → Rounded
word_in mode n = rounding_in mode (int_lt n (pos 0)) binary32 (exact_word n)
