-- Numerals as assemblers and the manual's listings write them, in bytes of ASCII. `decimal` and `signed_decimal` of the
-- standard library are the digits of a number without leading zeros, and 0 as one digit, with `-` before them where it
-- is negative.
use Rattle.std.specs.Prelude.{ℕ, ◌-◌, List, ◌++◌, length, replicate, false}
use Rattle.std.specs.Fmt.{digits}

-- a number in lower-case hexadecimal without leading zeros, and 0 as one digit
abbrev pub hexadecimal : ℕ → List ℕ
hexadecimal n = digits 16 false n

-- a number in hexadecimal with zeros, of code 48, before it up to `width` digits
abbrev pub hexadecimal_in : ℕ → ℕ → List ℕ
hexadecimal_in width n = replicate (width - length (hexadecimal n)) 48 ++ hexadecimal n

-- a byte, in two digits
abbrev pub two_digits : ℕ → List ℕ
two_digits n = hexadecimal_in 2 n

-- a halfword, in four digits
abbrev pub four_digits : ℕ → List ℕ
four_digits n = hexadecimal_in 4 n

-- a word, in eight digits
abbrev pub eight_digits : ℕ → List ℕ
eight_digits n = hexadecimal_in 8 n
