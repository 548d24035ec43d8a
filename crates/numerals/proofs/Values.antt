-- Numbers and their bounds.
use Rattle.std.proofs.Common.{◌≡◌, ℕ, ◌+◌, ◌*◌, ◌^◌, ◌<◌, ◌≤◌, List, [], ◌∷◌, length, get_or, drop, arith, Option, Some, None, sym, refl}
use Rattle.std.proofs.Math.Nat.{mul-le-mul_left}
use Rattle.std.proofs.lemmas.Grind.{common_steps}
use Rattle.std.proofs.lemmas.List.{at_drop_more}
use Rattle.std.specs.Char.{digit_value}
use Rattle.std.specs.Option.{option_and_then}
use Rattle.std.specs.Str.Parse.{digits_value_after}
use Rattle.numerals.specs.Numbers.{below}

-- digits that follow a number make it no less
digits_value_after-grows : (radix value : ℕ) (digits : List ℕ) → 0 < radix → value ≤ digits_value_after radix value digits
digits_value_after-grows radix value [] positive = omega arith
digits_value_after-grows radix value (d ∷ digits) positive =
    let longer : value * 1 ≤ value * radix = mul-le-mul_left value (omega arith) in
    let grown = digits_value_after-grows radix (value * radix + digit_value d) digits positive in
    omega (arith, longer, grown)

-- one digit on
pub digits_value_after-more : (radix value place : ℕ) (digits : List ℕ) → place < length digits
    → digits_value_after radix (value * radix + digit_value (get_or digits place 0)) (drop (place + 1) digits)
    ≡ digits_value_after radix value (drop place digits)
digits_value_after-more radix value place digits within = sym (at_drop_more (digits_value_after radix value) digits place 0 within)

below-none : (bound m n : ℕ) → m ≤ n → below bound m ≡ None → below bound n ≡ None
below-none bound m n grows none = grind (arith, common_steps)

-- where some first digits are too much, so are all of them
pub too_much : (radix value place bound : ℕ) (digits : List ℕ) → 0 < radix → place < length digits
    → below bound (value * radix + digit_value (get_or digits place 0)) ≡ None
    → below bound (digits_value_after radix value (drop place digits)) ≡ None
too_much radix value place bound digits positive within none =
    rw (sym (digits_value_after-more radix value place digits within))
    (below-none bound _ _
    (digits_value_after-grows radix (value * radix + digit_value (get_or digits place 0)) (drop (place + 1) digits) positive) none)

-- a number that 64 bits hold, and one that they do not, in 32 bits
pub narrower : (o : Option ℕ) (n : ℕ) → option_and_then (below (2 ^ 64)) o ≡ Some n → option_and_then (below (2 ^ 32)) o ≡ below (2 ^ 32) n
narrower None n h = grind (arith, common_steps)
narrower (Some m) n h = grind (arith, common_steps)

pub narrower_none : (o : Option ℕ) → option_and_then (below (2 ^ 64)) o ≡ None → option_and_then (below (2 ^ 32)) o ≡ None
narrower_none None h = refl
narrower_none (Some m) h = grind (arith, common_steps)

pub below-some : (bound n : ℕ) → n < bound → below bound n ≡ Some n
below-some bound n less = grind (arith, common_steps)

pub below-none_past : (bound n : ℕ) → (n < bound → ⊥) → below bound n ≡ None
below-none_past bound n past = grind (arith, common_steps)
