-- NaNs that signal, and the classes of patterns (IEEE 754-2008, section 6.2.1; RISC-V Unprivileged ISA 20191213, section 11.9
-- "Single-Precision Floating-Point Classify Instruction" with table 11.5, and section 12.7).
use Rattle.std.specs.Prelude.{ℕ, ◌/◌, ◌%◌, ◌^◌, Bool, ◌&&◌, nat_lt, is_nan, if◌then◌else◌}
use Rattle.std.specs.Float.{float_is_infinite, is_normal, is_subnormal}
use Rattle.rv_floats.specs.Signs.{sign}
use lib.Ieee.{Format, Float, hid, of_bits}

-- a NaN signals where the first of the digits behind its exponent is clear
abbrev pub is_signaling : Format → ℕ → Bool
is_signaling f a = is_nan (of_bits f a) && nat_lt (a % hid f) (hid f / 2)

-- the masks of numbers with a minus, and of those with a plus
abbrev pub negative_class : Format → Float → ℕ
negative_class f x =
    if float_is_infinite x then 2 ^ 0 else
    if is_normal f x then 2 ^ 1 else
    if is_subnormal f x then 2 ^ 2 else 2 ^ 3

abbrev pub positive_class : Format → Float → ℕ
positive_class f x =
    if float_is_infinite x then 2 ^ 7 else
    if is_normal f x then 2 ^ 6 else
    if is_subnormal f x then 2 ^ 5 else 2 ^ 4

-- FCLASS: a mask of one bit
abbrev pub class_mask : Format → ℕ → ℕ
class_mask f a =
    if is_signaling f a then 2 ^ 8 else
    if is_nan (of_bits f a) then 2 ^ 9 else
    if sign f a then negative_class f (of_bits f a) else positive_class f (of_bits f a)
