-- The whole part of a value, and words by their sign and size. The definitions of the results do not rest on these.
use Rattle.std.specs.Prelude.{◌≡◌, ℕ, ◌+◌, ◌-◌, ◌*◌, ◌/◌, ◌%◌, ◌^◌, ◌<◌, ◌≤◌, Bool, true, if◌then◌else◌}
use Rattle.std.specs.Float.{float_is_finite}
use lib.Ieee.{Float}
use lib.Ieee.Positive.{den, num}

-- x is finite, and n is the whole part of its size
pub record IsCut (x : Float) (n : ℕ) : Type 0 where
  pub finite : float_is_finite x ≡ true
  pub least : n * den x ≤ num x
  pub most : num x < (n + 1) * den x

-- two's complement
abbrev pub pattern : Bool → ℕ → ℕ
pattern s n = if s then (2 ^ 32 - n) % 2 ^ 32 else n

-- the pattern of a double of middling size as a single, to the nearest, ties to even: 29 places are dropped,
-- and the exponent counts from 896 less
abbrev pub narrowed_double : ℕ → ℕ
narrowed_double a =
    let m = a % 2 ^ 63 in
    a / 2 ^ 63 * 2 ^ 31 + ((m + (2 ^ 28 - 1) + m / 2 ^ 29 % 2) / 2 ^ 29 - 896 * 2 ^ 23)
