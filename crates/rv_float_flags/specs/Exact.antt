-- Exact results, and what rounding makes of them (IEEE 754-2008, sections 7.4 "Overflow", 7.5 "Underflow" and 7.6 "Inexact"; RISC-V
-- Unprivileged ISA 20191213, section 11.4 "Subnormal Arithmetic"). Of a finite value `lib.Ieee.Positive.num` and `den` are the
-- magnitude, as a fraction. To the nearest no flag turns on a sign.
use Rattle.std.specs.Prelude.{ℕ, ◌+◌, ◌-◌, ◌*◌, ◌^◌, ◌==◌, Bool, false, not, ◌&&◌, nat_lt, if◌then◌else◌}
use Rattle.std.specs.Int.{abs_diff}
use Rattle.std.specs.Float.{float_is_finite, float_is_infinite, is_sign_negative}
use lib.Ieee.{Float, Format, prec, round, size, unlike}
use lib.Ieee.Positive.{num, den}
use lib.Ieee.Scale.{grid}

-- the magnitude of an exact result
pub record Ratio : Type 0 where
  pub numerator : ℕ
  pub denominator : ℕ

-- ---- the exact results of operations on finite values

abbrev pub exact_value : Float → Ratio
exact_value x = record { numerator = num x; denominator = den x }

-- the magnitude of a sum, by those of its terms and whether their signs differ
abbrev pub combined : Bool → ℕ → ℕ → ℕ
combined opposite a b = if opposite then abs_diff a b else a + b

abbrev pub exact_sum : Float → Float → Ratio
exact_sum x y = record {
  numerator = combined (unlike (is_sign_negative x) (is_sign_negative y)) (num x * den y) (num y * den x);
  denominator = den x * den y;
}

abbrev pub exact_product : Float → Float → Ratio
exact_product x y = record { numerator = num x * num y; denominator = den x * den y }

-- of a divisor that is not zero
abbrev pub exact_quotient : Float → Float → Ratio
exact_quotient x y = record { numerator = num x * den y; denominator = num y * den x }

-- x * y + z
abbrev pub exact_fused : Float → Float → Float → Ratio
exact_fused x y z =
    let opposite = unlike (unlike (is_sign_negative x) (is_sign_negative y)) (is_sign_negative z) in
    record {
      numerator = combined opposite (num x * num y * den z) (num z * (den x * den y));
      denominator = den x * den y * den z;
    }

-- ---- what a format makes of an exact result

-- rounded to the nearest, ties to even
abbrev pub rounded : Format → Ratio → Float
rounded f r = round f false r.numerator r.denominator

-- x is finite, and is r in size
abbrev pub is_exactly : Float → Ratio → Bool
is_exactly x r = float_is_finite x && num x * r.denominator == r.numerator * den x

-- the rounded result differs from the exact one
abbrev pub is_inexact : Format → Ratio → Bool
is_inexact f r = not (is_exactly (rounded f r) r)

-- The rounded result is past the largest finite value. `round` puts an infinity where it would be 2 ^ (emax + 1) or more, were the
-- exponent unbounded.
abbrev pub overflows : Format → Ratio → Bool
overflows f r = float_is_infinite (rounded f r)

-- r times 2 ^ t, rounded to the format's digits, as a multiple of the smallest positive value. Where t is so large that r * 2 ^ t
-- is normal, this is 2 ^ t times what r is rounded to with an exponent that is unbounded.
abbrev pub rounded_times : ℕ → Format → Ratio → ℕ
rounded_times t f r = grid f (r.numerator * 2 ^ t) r.denominator

-- Tininess after rounding: the result, rounded with an exponent that is unbounded, is not zero and lies below the smallest normal
-- value, which is 2 ^ (prec - 1) times the smallest positive one.
abbrev pub is_tiny : Format → Ratio → Bool
is_tiny f r =
    let t = size r.denominator in
    nat_lt 0 r.numerator && nat_lt (rounded_times t f r) (2 ^ (prec f - 1) * 2 ^ t)
