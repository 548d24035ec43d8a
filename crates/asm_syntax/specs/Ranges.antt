-- Ranges of numbers. A range is written once; that a number is in it is a test, `is_within`, and a fact, `IsWithin`. The ranges of an
-- instruction's own operands stand as facts in `rv_tables`, which knows of no texts; the law `a_statement_is_in_range` ties both.
use Rattle.std.specs.Prelude.{ℕ, ◌-◌, ◌^◌, ◌&&◌, Bool, ℤ, pos, neg_ℤ, int_le, ◌≤ℤ◌}

-- the numbers from `low` to `high`
pub record Range : Type 0 where
  pub low : ℤ
  pub high : ℤ

abbrev pub from_to : ℤ → ℤ → Range
from_to low high = record { low = low; high = high }

abbrev pub up_to : ℕ → Range
up_to high = from_to (pos 0) (pos high)

-- what `width` bits hold as a signed number
abbrev pub signed : ℕ → Range
signed width = from_to (neg_ℤ (pos (2 ^ (width - 1)))) (pos (2 ^ (width - 1) - 1))

-- as an unsigned number
abbrev pub unsigned : ℕ → Range
unsigned width = up_to (2 ^ width - 1)

-- as the one or the other
abbrev pub signed_or_unsigned : ℕ → Range
signed_or_unsigned width = from_to (neg_ℤ (pos (2 ^ (width - 1)))) (pos (2 ^ width - 1))

-- a number is in a range: a test, and the fact that it tests
abbrev pub is_within : Range → ℤ → Bool
is_within range n = int_le range.low n && int_le n range.high

abbrev pub IsWithin : Range → ℤ → Type 0
IsWithin range n = (range.low ≤ℤ n) × (n ≤ℤ range.high)
