-- Odd digits: the zeros at a number's end divided out, and sums that are too long for few digits.
use Rattle.std.proofs.Common.{◌≡◌, ℕ, zero, suc, ◌+◌, ◌-◌, ◌*◌, ◌/◌, ◌%◌, ◌^◌, ◌<◌, ◌≤◌, Bool, true, false, sym, ap, ◌∙◌, refl, arith, inl}
use Rattle.std.proofs.Common.{inr}
use Rattle.std.proofs.Math.Nat.{div-div-eq-div-mul, mul-one, div-one, mul-le-mul_right, mul_left_comm, pow-succ', eq_of_mul-eq-mul_right}
use Rattle.std.proofs.lemmas.Bool.{cases_lt}
use Rattle.std.proofs.lemmas.Nat.{pow-add, pow_pos}
use Rattle.std.proofs.lemmas.Nat.Bits.{bit_at-trailing_zeros}
use Rattle.std.specs.Int.{w128}
use Rattle.rv_float_flags.specs.Exact.{combined}
use Rattle.rv_float_flags.proofs.Numbers.{power_split}
use lib.Count.{count_trailing_zeros, under}

whole : (n : ℕ) → n / 1 * 1 ≡ n
whole n = mul-one (n / 1) ∙ div-one n

twice_half : (n : ℕ) → n % 2 ≡ 0 → 2 * (n / 2) ≡ n
twice_half n e = omega arith

pub zeros_out : (d n : ℕ) → n / 2 ^ count_trailing_zeros d n * 2 ^ count_trailing_zeros d n ≡ n
unfolding count_trailing_zeros
zeros_out zero n = whole n
zeros_out (suc d) n = go (n % 2) refl (zeros_out d (n / 2))
  where
    go : (r : ℕ) → n % 2 ≡ r → n / 2 / 2 ^ count_trailing_zeros d (n / 2) * 2 ^ count_trailing_zeros d (n / 2) ≡ n / 2
        → n / 2 ^ under r (count_trailing_zeros d (n / 2)) * 2 ^ under r (count_trailing_zeros d (n / 2)) ≡ n
    go zero e ih =
        let t = count_trailing_zeros d (n / 2) in
        ap (λ (x : ℕ). n / x * x) (pow-succ' 2 t)
        ∙ ap (λ (x : ℕ). x * (2 * 2 ^ t)) (sym (div-div-eq-div-mul n 2 (2 ^ t)))
        ∙ mul_left_comm (n / 2 / 2 ^ t) 2 (2 ^ t)
        ∙ ap (λ (x : ℕ). 2 * x) ih
        ∙ twice_half n e
    go (suc r) e ih = whole n

pub odd_rest : (n : ℕ) → 0 < n → n < 2 ^ 128 → n / 2 ^ count_trailing_zeros 128 n % 2 ≡ 1
odd_rest n p h = (bit_at-trailing_zeros w128 n p h).1

pub same_number : (n i : ℕ) → n / 2 ^ count_trailing_zeros 128 n * 2 ^ (i + count_trailing_zeros 128 n) ≡ n * 2 ^ i
same_number n i =
    let t = count_trailing_zeros 128 n in
    let e : 2 ^ (i + t) ≡ 2 ^ i * 2 ^ t = pow-add 2 i t in
    let z : n / 2 ^ t * 2 ^ t ≡ n = zeros_out 128 n in
    let k : n / 2 ^ t * (2 ^ i * 2 ^ t) ≡ n * 2 ^ i = omega (arith, ap (λ (x : ℕ). x * 2 ^ i) z) in
    ap (λ (x : ℕ). n / 2 ^ t * x) e ∙ k

-- an odd number of more than 53 digits is no other with fewer
even_times : (k n : ℕ) → 0 < n → k * 2 ^ n % 2 ≡ 0
even_times k zero p = absurd (omega (arith, p))
even_times k (suc n) p =
    let e : 2 ^ suc n ≡ 2 * 2 ^ n = pow-succ' 2 n in let f : k * 2 ^ suc n ≡ k * 2 ^ n * 2 = omega (arith, ap (λ (x : ℕ). k * x) e) in
    omega (arith, f)

pub odd_far : (s i k g : ℕ) → s % 2 ≡ 1 → 2 ^ 53 ≤ s → k < 2 ^ 53 → s * 2 ^ i ≡ k * 2 ^ g → ⊥
odd_far s i k g o l h e = elim (cases_lt i g) [
  | inl p ↦
      let w : k * 2 ^ (g - i) * 2 ^ i ≡ k * 2 ^ g = power_split k i g (omega (arith, p)) in
      let q : s ≡ k * 2 ^ (g - i) = eq_of_mul-eq-mul_right (2 ^ i) (pow_pos i) s (k * 2 ^ (g - i)) (e ∙ sym w) in
      let v : k * 2 ^ (g - i) % 2 ≡ 0 = even_times k (g - i) (omega (arith, p)) in
      omega (arith, v, q, o)
  | inr p ↦
      let w : s * 2 ^ (i - g) * 2 ^ g ≡ s * 2 ^ i = power_split s g i p in
      let q : s * 2 ^ (i - g) ≡ k = eq_of_mul-eq-mul_right (2 ^ g) (pow_pos g) (s * 2 ^ (i - g)) k (w ∙ e) in
      let v : 1 ≤ 2 ^ (i - g) = pow_pos (i - g) in
      let m : 1 * s ≤ 2 ^ (i - g) * s = mul-le-mul_right s v in
      omega (arith, q, m, l, h)
]

-- so is an odd number and one that is 2 ^ 120 at least
pub far_sum : (o : Bool) (a b n : ℕ) → a % 2 ≡ 1 → a < 2 ^ 106 → b < 2 ^ 106 → 2 ^ 120 ≤ b * 2 ^ n
    → (combined o a (b * 2 ^ n) % 2 ≡ 1) × (2 ^ 53 ≤ combined o a (b * 2 ^ n))
far_sum o a b zero p h k l = absurd (omega (arith, k, l))
far_sum true a b (suc n) p h k l = let e : b * 2 ^ suc n % 2 ≡ 0 = even_times b (suc n) (omega arith) in
    (omega (arith, e, p, h, l), omega (arith, h, l))
far_sum false a b (suc n) p h k l = let e : b * 2 ^ suc n % 2 ≡ 0 = even_times b (suc n) (omega arith) in
    (omega (arith, e, p, h, l), omega (arith, h, l))
