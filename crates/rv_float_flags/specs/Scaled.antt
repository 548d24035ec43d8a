-- The numbers by which the code finds out whether a result is exact or tiny. The definitions of the flags do not rest on these.
use Rattle.std.specs.Prelude.{◌≡◌, ℕ, ◌+◌, ◌-◌, ◌*◌, ◌/◌, ◌%◌, ◌^◌, ◌<◌, ◌≤◌, true, false, IfSome, MatchOption}
use Rattle.std.specs.declared.option.Option.{Option}
use Rattle.std.specs.Float.{float_is_finite}
use Rattle.rv_float_flags.specs.declared.scaled.Scaled.{Scaled}
use Rattle.rv_float_flags.specs.Exact.{Ratio}
use lib.Ieee.{Float, Format, low, prec}
use lib.Ieee.Positive.{num, den}

abbrev pub amount : Scaled → ℕ
amount x = x.digits * 2 ^ x.place

-- p times 2 ^ -1074, the smallest positive double, is the magnitude of x, which is finite
pub record IsMagnitude (f : Format) (x : Float) (p : Scaled) : Type 0 where
  pub finite : float_is_finite x ≡ true
  pub value : num x * 2 ^ 1074 ≡ amount p * den x
  pub narrow : p.digits < 2 ^ prec f
  pub coarse : 1074 ≤ p.place + low f
  pub low_place : p.place < 2046

-- the magnitude of a finite value, and none of another
abbrev pub IsMagnitudeOf : Format → Float → Option Scaled → Type 0
IsMagnitudeOf f x p = MatchOption p (float_is_finite x ≡ false) (λ q. IsMagnitude f x q)

-- digits that the code can multiply
abbrev pub IsNarrow : Option Scaled → Type 0
IsNarrow p = IfSome p (λ q. (q.digits < 2 ^ 53) × (q.place < 2046))

-- r is n / m times 2 ^ -2148
pub record IsFraction (r : Ratio) (n m : ℕ) : Type 0 where
  pub nonzero : 0 < r.denominator
  pub divisor : 0 < m
  pub value : r.numerator * 2 ^ 2148 * m ≡ n * r.denominator

-- a limit of a format: (2 ^ (prec + 1) - 1) quarters of the smallest positive value, as a multiple of 2 ^ -2148
pub record IsLimit (f : Format) (limit : Scaled) : Type 0 where
  pub digits : limit.digits ≡ 2 ^ (prec f + 1) - 1
  pub place : limit.place + low f + 2 ≡ 2148

-- the exponent field of a double's pattern
abbrev pub exponent : ℕ → ℕ
exponent a = a % 2 ^ 63 / 2 ^ 52

-- between 2 ^ -255 and 2 ^ 257 in size, by its pattern: the middle quarter of the exponents
pub record IsMiddling (a : ℕ) : Type 0 where
  pub least : 768 ≤ exponent a
  pub most : exponent a < 1280

-- the exponent field of a single's pattern
abbrev pub single_exponent : ℕ → ℕ
single_exponent a = a % 2 ^ 31 / 2 ^ 23

-- between 2 ^ -31 and 2 ^ 33 in size, by its pattern: the middle quarter of the exponents
pub record IsSingleMiddling (a : ℕ) : Type 0 where
  pub least : 96 ≤ single_exponent a
  pub most : single_exponent a < 160
