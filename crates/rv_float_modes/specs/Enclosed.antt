-- The numbers by which the code rounds. The definitions of the results do not rest on these.
use Rattle.std.specs.Prelude.{◌≡◌, ℕ, ◌+◌, ◌*◌, ◌/◌, ◌%◌, ◌^◌, ◌<◌, ◌≤◌, ◌==◌, not, ◌&&◌, ◌||◌, nat_le, nat_lt}
use Rattle.rv_float_flags.specs.Exact.{Ratio}
use Rattle.rv_float_modes.specs.declared.magnitude.Magnitude.{Magnitude}
use Rattle.rv_float_modes.specs.declared.rounding.Shape.{Shape}
use Rattle.rv_float_modes.specs.declared.rounding.Cut.{Cut}
use Rattle.rv_float_modes.specs.Modes.{infinity, rest, step, truncated}
use Rattle.std.specs.Prelude.{false, MatchOption}
use Rattle.std.specs.declared.option.Option.{Option}
use Rattle.rv_float_flags.specs.Scaled.{IsMagnitude}
use Rattle.rv_float_flags.specs.declared.scaled.Scaled.{Scaled}
use Rattle.rv_float_modes.specs.Operations.{is_nonzero}
use lib.Ieee.Positive.{num}
use lib.Ieee.{Float, Format, hid, low, prec, top}

-- e is the magnitude r, as a multiple of 2 ^ -4096: whole multiples of 2 ^ place, and whether there is a rest
pub record Encloses (r : Ratio) (e : Magnitude) : Type 0 where
  pub nonzero : 0 < r.denominator
  pub whole : e.digits ≡ r.numerator * 2 ^ 4096 / (r.denominator * 2 ^ e.place)
  pub rest : e.goes_on ≡ nat_lt 0 (r.numerator * 2 ^ 4096 % (r.denominator * 2 ^ e.place))

-- r is digits * 2 ^ place times 2 ^ -4096
pub record IsNumber (r : Ratio) (digits place : ℕ) : Type 0 where
  pub nonzero : 0 < r.denominator
  pub value : r.numerator * 2 ^ 4096 ≡ digits * 2 ^ place * r.denominator

-- digits enough for each format, with one more to round by
pub record IsWide (e : Magnitude) : Type 0 where
  pub wide : 2 ^ 63 ≤ e.digits
  pub narrow : e.digits < 2 ^ 127

-- the numbers of a format
pub record IsShape (f : Format) (s : Shape) : Type 0 where
  pub digits : s.digits ≡ prec f
  pub lowest : s.lowest + low f ≡ 4096
  pub hidden : s.hidden ≡ hid f
  pub infinity : s.infinity ≡ infinity f
  pub sign : s.sign ≡ top f

-- the numbers of a format are such as the code can work with
pub record IsFormat (s : Shape) : Type 0 where
  pub digits : s.digits < 54
  pub lowest : 3022 ≤ s.lowest
  pub lowest_top : s.lowest < 3948
  pub hidden : s.hidden ≤ 2 ^ 52
  pub infinity : s.infinity < 2 ^ 63
  pub infinity_nonzero : 0 < s.infinity
  pub sign : s.sign ≤ 2 ^ 63

-- a magnitude cut off for a format
pub record IsCut (f : Format) (r : Ratio) (c : Cut) : Type 0 where
  pub pattern : c.pattern ≡ truncated f r
  pub half : c.half ≡ nat_le (step f r) (rest f r * 2)
  pub tie : (c.half && not c.more) ≡ (rest f r * 2 == step f r)
  pub above : (c.half && c.more) ≡ nat_lt (step f r) (rest f r * 2)
  pub inexact : (c.half || c.more) ≡ nat_lt 0 (rest f r)

-- the magnitude of a value that is finite and not zero, and none of another
abbrev pub IsNonzeroOf : Format → Float → Option Scaled → Type 0
IsNonzeroOf f y q = MatchOption q (is_nonzero y ≡ false) (λ p. IsMagnitude f y p × (0 < num y))
