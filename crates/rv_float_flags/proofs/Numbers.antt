-- Tests of numbers, and products with a number that is not zero.
use Rattle.std.proofs.Common.{◌≡◌, ℕ, ◌+◌, ◌-◌, ◌*◌, ◌^◌, ◌<◌, ◌≤◌, Bool, true, false, nat_eq, nat_lt, sym, ap, ◌∙◌, arith, inl, inr}
use Rattle.std.proofs.Math.Nat.{mul-lt-mul_of_pos_right, lt_of_mul-lt-mul_right, eq_of_mul-eq-mul_right, sub-add_cancel}
use Rattle.std.proofs.lemmas.Bool.{cases_lt}
use Rattle.std.proofs.lemmas.Bool.Decides.{same_from_decides, Decides-eqb, Decides-ltb, Decides-like}
use Rattle.std.proofs.lemmas.Nat.{pow-add, pow_pos}
use Rattle.rv_float_flags.specs.Exact.{combined}

-- two tests of the same fact
pub same_eq : (a b x y : ℕ) → (a ≡ b → x ≡ y) → (x ≡ y → a ≡ b) → nat_eq a b ≡ nat_eq x y
same_eq a b x y f g =
    same_from_decides {P = x ≡ y} (nat_eq a b) (nat_eq x y) (Decides-like (nat_eq a b) f g (Decides-eqb a b)) (Decides-eqb x y)

pub same_lt : (a b x y : ℕ) → (a < b → x < y) → (x < y → a < b) → nat_lt a b ≡ nat_lt x y
same_lt a b x y f g =
    same_from_decides {P = x < y} (nat_lt a b) (nat_lt x y) (Decides-like (nat_lt a b) f g (Decides-ltb a b)) (Decides-ltb x y)

-- a factor that both sides have
pub eq_times : (x y p : ℕ) → 0 < p → nat_eq x y ≡ nat_eq (x * p) (y * p)
eq_times x y p h = same_eq x y (x * p) (y * p) (λ e. ap (λ (z : ℕ). z * p) e) (eq_of_mul-eq-mul_right p h x y)

pub lt_times : (x y p : ℕ) → 0 < p → nat_lt x y ≡ nat_lt (x * p) (y * p)
lt_times x y p h = same_lt x y (x * p) (y * p) (λ l. mul-lt-mul_of_pos_right l h) (λ l. lt_of_mul-lt-mul_right p l)

diff_times : (a b p : ℕ) → a ≤ b → (a * p - b * p) + (b * p - a * p) ≡ ((a - b) + (b - a)) * p
diff_times a b p h =
    let d : (b - a) * p + a * p ≡ b * p = let e : b - a + a ≡ b = omega arith in omega (arith, ap (λ (x : ℕ). x * p) e) in
    let e : (a * p - b * p) + (b * p - a * p) ≡ (b - a) * p = omega (arith, d) in
    let k : b - a ≡ (a - b) + (b - a) = omega arith in
    e ∙ ap (λ (x : ℕ). x * p) k

diff_sides : (a b : ℕ) → (a - b) + (b - a) ≡ (b - a) + (a - b)
diff_sides a b = omega arith

pub combined_times : (o : Bool) (a b p : ℕ) → combined o (a * p) (b * p) ≡ combined o a b * p
combined_times true a b p = elim (cases_lt a b) [
  | inl l ↦ let h : a ≤ b = omega arith in diff_times a b p h
  | inr l ↦ diff_sides (a * p) (b * p) ∙ diff_times b a p l ∙ ap (λ (x : ℕ). x * p) (diff_sides b a)
]
combined_times false a b p = omega arith

pub combined_sides : (o : Bool) (a b : ℕ) → combined o a b ≡ combined o b a
combined_sides true a b = diff_sides a b
combined_sides false a b = omega arith

-- 2 ^ j by a smaller power
pub power_split : (x i j : ℕ) → i ≤ j → x * 2 ^ (j - i) * 2 ^ i ≡ x * 2 ^ j
power_split x i j h =
    let e : 2 ^ (j - i + i) ≡ 2 ^ (j - i) * 2 ^ i = pow-add 2 (j - i) i in
    let k : 2 ^ (j - i + i) ≡ 2 ^ j = ap (λ (z : ℕ). 2 ^ z) (sub-add_cancel h) in
    let l : x * (2 ^ (j - i) * 2 ^ i) ≡ x * 2 ^ j = ap (λ (z : ℕ). x * z) (sym e ∙ k) in
    omega (arith, l)

pub same_eq_sides : (x y : ℕ) → nat_eq x y ≡ nat_eq y x
same_eq_sides x y = same_eq x y y x sym sym

pub eq_scaled : (x y i j : ℕ) → i ≤ j → nat_eq x (y * 2 ^ (j - i)) ≡ nat_eq (x * 2 ^ i) (y * 2 ^ j)
eq_scaled x y i j h = eq_times x (y * 2 ^ (j - i)) (2 ^ i) (pow_pos i) ∙ ap (λ (z : ℕ). nat_eq (x * 2 ^ i) z) (power_split y i j h)

pub eq_scaled_turned : (x y i j : ℕ) → j ≤ i → nat_eq y (x * 2 ^ (i - j)) ≡ nat_eq (x * 2 ^ i) (y * 2 ^ j)
eq_scaled_turned x y i j h = eq_scaled y x j i h ∙ same_eq_sides (y * 2 ^ j) (x * 2 ^ i)

pub lt_scaled : (x y i j : ℕ) → i ≤ j → nat_lt x (y * 2 ^ (j - i)) ≡ nat_lt (x * 2 ^ i) (y * 2 ^ j)
lt_scaled x y i j h = lt_times x (y * 2 ^ (j - i)) (2 ^ i) (pow_pos i) ∙ ap (λ (z : ℕ). nat_lt (x * 2 ^ i) z) (power_split y i j h)

pub lt_scaled_turned : (x y i j : ℕ) → j ≤ i → nat_lt (x * 2 ^ (i - j)) y ≡ nat_lt (x * 2 ^ i) (y * 2 ^ j)
lt_scaled_turned x y i j h = lt_times (x * 2 ^ (i - j)) y (2 ^ j) (pow_pos j) ∙ ap (λ (z : ℕ). nat_lt z (y * 2 ^ j)) (power_split x j i h)
