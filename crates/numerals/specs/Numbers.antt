-- Numbers as they are written in lines (own format): decimal digits, or `0x` and hexadecimal digits of either case, without a sign.
use Rattle.std.specs.Prelude.{ℕ, ◌^◌, ◌==◌, ◌&&◌, Bool, not, nat_lt, nat_eq, if◌then◌else◌, List, length, drop, codes, Option, Some, None}
use Rattle.std.specs.Char.{is_digit}
use Rattle.std.specs.List.{list_all, starts_with}
use Rattle.std.specs.Option.{option_and_then}
use Rattle.std.specs.Str.Parse.{digits_value}

-- digits, one at least, and nothing else
abbrev pub is_numeral : ℕ → List ℕ → Bool
is_numeral radix word = not (length word == 0) && list_all (λ b. is_digit b radix) word

-- the value of a numeral, of any number of digits
abbrev pub numeral_value : ℕ → List ℕ → Option ℕ
numeral_value radix word = if is_numeral radix word then Some (digits_value radix word) else None

-- the value of a number
abbrev pub number_value : List ℕ → Option ℕ
number_value word = if starts_with nat_eq word (codes "0x") then numeral_value 16 (drop 2 word) else numeral_value 10 word

-- a number, where it is below a bound
abbrev pub below : ℕ → ℕ → Option ℕ
below bound n = if nat_lt n bound then Some n else None

-- the value of a number, where an unsigned type of so many bits has it
abbrev pub number_in : ℕ → List ℕ → Option ℕ
number_in bits word = option_and_then (below (2 ^ bits)) (number_value word)
