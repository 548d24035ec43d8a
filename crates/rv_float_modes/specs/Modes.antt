-- What a format makes of an exact result in a rounding mode (IEEE 754-2008, sections 4.3, 7.4, 7.5 and 7.6; RISC-V Unprivileged ISA
-- 20191213, table 11.1). A pattern of a magnitude is one without the sign. As numbers these patterns stand in the order of their values,
-- and they go on past the infinity's, as though the exponent were unbounded: the infinity's pattern stands for 2 ^ (emax + 1).
use Rattle.std.specs.Prelude.{ℕ, ◌+◌, ◌-◌, ◌*◌, ◌/◌, ◌%◌, ◌^◌, ◌==◌, Bool, true, false, not, ◌&&◌, ◌||◌, nat_le, nat_lt, if◌then◌else◌}
use Rattle.rv_floats.specs.declared.rounding.Rounding.{Rounding}
use Rattle.rv_floats.specs.declared.rounding.Rounding.TheVariants.{NearestEven, TowardZero, Down, Up, NearestAway}
use Rattle.rv_float_flags.specs.Exact.{Ratio}
use Rattle.rv_float_flags.specs.declared.flags.Flags.{Flags}
use Rattle.rv_float_modes.specs.declared.rounded.Rounded.{Rounded}
use lib.Ieee.{Format, hid, low, ones, prec, size, top}

-- ---- the largest pattern whose value is not above an exact magnitude

-- Of the whole part, as a multiple of the smallest positive value, the format keeps `prec` digits, and drops these.
abbrev pub dropped : Format → Ratio → ℕ
dropped f r = size (r.numerator * 2 ^ low f / r.denominator) - prec f

-- the distance to the next pattern's value, in the fraction's own terms
abbrev pub step : Format → Ratio → ℕ
step f r = r.denominator * 2 ^ dropped f r

-- Each digit dropped is one more in the exponent's field.
abbrev pub truncated : Format → Ratio → ℕ
truncated f r = dropped f r * hid f + r.numerator * 2 ^ low f / step f r

-- how far the exact magnitude is above that pattern's value, in the same terms as `step`
abbrev pub rest : Format → Ratio → ℕ
rest f r = r.numerator * 2 ^ low f % step f r

-- what a pattern of a magnitude stands for, as a multiple of the smallest positive value: the exponent's field, and the digits below
-- the leading one, which a field of 0 does not have (section 3.4)
abbrev pub size_of : Format → ℕ → ℕ
size_of f p = if nat_lt p (hid f) then p else (hid f + p % hid f) * 2 ^ (p / hid f - 1)

-- ---- the rounding modes

-- whether a magnitude is rounded to the next pattern, by whether that pattern is odd, the rest and the step
abbrev pub goes_up : Rounding → Bool → Bool → ℕ → ℕ → Bool
goes_up NearestEven negative is_odd rest step = nat_lt step (rest * 2) || (rest * 2 == step && is_odd)
goes_up TowardZero negative is_odd rest step = false
goes_up Down negative is_odd rest step = negative && nat_lt 0 rest
goes_up Up negative is_odd rest step = not negative && nat_lt 0 rest
goes_up NearestAway negative is_odd rest step = nat_le step (rest * 2)

-- the pattern of the rounded magnitude, with an exponent that has no upper bound
abbrev pub unbounded : Rounding → Bool → Format → Ratio → ℕ
unbounded mode negative f r =
    if goes_up mode negative (truncated f r % 2 == 1) (rest f r) (step f r) then truncated f r + 1 else truncated f r

abbrev pub infinity : Format → ℕ
infinity f = ones f * hid f

-- where the result is past the largest finite value: whether it is the infinity, and not that value (section 7.4)
abbrev pub goes_to_infinity : Rounding → Bool → Bool
goes_to_infinity NearestEven negative = true
goes_to_infinity TowardZero negative = false
goes_to_infinity Down negative = negative
goes_to_infinity Up negative = not negative
goes_to_infinity NearestAway negative = true

abbrev pub bounded : Rounding → Bool → Format → ℕ → ℕ
bounded mode negative f p =
    if nat_lt p (infinity f) then p else if goes_to_infinity mode negative then infinity f else infinity f - 1

abbrev pub with_sign : Format → Bool → ℕ → ℕ
with_sign f negative p = (if negative then top f else 0) + p

-- the pattern of what an exact result is rounded to, by its sign and magnitude
abbrev pub rounded_in : Rounding → Bool → Format → Ratio → ℕ
rounded_in mode negative f r = with_sign f negative (bounded mode negative f (unbounded mode negative f r))

-- ---- flags

-- past the largest finite value, were the exponent unbounded
abbrev pub overflows_in : Rounding → Bool → Format → Ratio → Bool
overflows_in mode negative f r = nat_le (infinity f) (unbounded mode negative f r)

-- A result that overflows is none that the format has.
abbrev pub is_inexact_in : Rounding → Bool → Format → Ratio → Bool
is_inexact_in mode negative f r = nat_lt 0 (rest f r) || overflows_in mode negative f r

-- Tininess after rounding: rounded with an exponent that has no lower bound either, the result lies below the smallest normal value. Next
-- below that value such results lie half as far apart as those of the format. So the format rounds twice the exact result as it is asked
-- for, and that is compared with twice the value.
abbrev pub twice : Ratio → Ratio
twice r = record { numerator = 2 * r.numerator; denominator = r.denominator }

abbrev pub is_tiny_in : Rounding → Bool → Format → Ratio → Bool
is_tiny_in mode negative f r = nat_lt (unbounded mode negative f (twice r)) (2 * hid f)

-- Where the result is exact, nothing is raised: so not for one that is zero.
abbrev pub rounding_flags_in : Rounding → Bool → Format → Ratio → Flags
rounding_flags_in mode negative f r = record {
  nv = false;
  dz = false;
  of = overflows_in mode negative f r;
  uf = is_tiny_in mode negative f r && is_inexact_in mode negative f r;
  nx = is_inexact_in mode negative f r;
}

-- the pattern and the flags
abbrev pub rounding_in : Rounding → Bool → Format → Ratio → Rounded
rounding_in mode negative f r = record { bits = rounded_in mode negative f r; flags = rounding_flags_in mode negative f r }
