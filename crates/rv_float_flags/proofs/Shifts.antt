-- Shifts of numbers of at most 128 bits.
use Rattle.std.proofs.Common.{◌≡◌, ℕ, ◌+◌, ◌-◌, ◌*◌, ◌/◌, ◌%◌, ◌^◌, ◌<◌, ◌≤◌, not, nat_eq, nat_lt, sym, ap, ◌∙◌, refl, arith, inl, inr}
use Rattle.std.proofs.Math.Nat.{eq-zero-or-pos, mul-le-mul_left, mul-le-mul_right, mul-lt-mul_of_pos_right, mul-pos, zero-mul}
use Rattle.std.proofs.Math.Nat.{mul-div_cancel, mul-mod_left, div-lt_iff_lt-mul, le-div_iff_mul-le, mod-eq_of_lt, div-eq_of_lt}
use Rattle.std.proofs.Math.Nat.{div-add-mod'}
use Rattle.std.proofs.Math.Pow.{pow_mono}
use Rattle.std.proofs.lemmas.Nat.{pow-add, mod_below, pow_pos, one_shl, shl_below}
use Rattle.std.proofs.Math.Arith.{digits_div, digits_mod}
use Rattle.std.proofs.lemmas.Bool.{eq-eqb, le-ltb, lt-ltb, ne_eqb}
use Rattle.rv_float_flags.proofs.Numbers.{power_split, same_eq}

-- x * 2 ^ n against 2 ^ 120
pub short_enough : (x n : ℕ) → n < 120 → x / 2 ^ (120 - n) ≡ 0 → x * 2 ^ n < 2 ^ 120
short_enough x n h e =
    let l : x < 2 ^ (120 - n) = let k : x / 2 ^ (120 - n) < 1 = omega arith in
    let m : x < 1 * 2 ^ (120 - n) = (div-lt_iff_lt-mul (pow_pos (120 - n))).0 k in omega arith in
    let s : x * 2 ^ n < 2 ^ (120 - n + n) = shl_below x (120 - n) n l in
    let t : 2 ^ (120 - n + n) ≡ 2 ^ 120 = ap (λ (z : ℕ). 2 ^ z) (let q : 120 - n + n ≡ 120 = omega arith in q) in
    omega (arith, s, t)

pub too_long : (x n : ℕ) → n < 120 → (x / 2 ^ (120 - n) ≡ 0 → ⊥) → 2 ^ 120 ≤ x * 2 ^ n
too_long x n h e =
    let k : 1 ≤ x / 2 ^ (120 - n) = elim (eq-zero-or-pos (x / 2 ^ (120 - n))) [ inl z ↦ absurd (e z) | inr p ↦ p ] in
    let l : 1 * 2 ^ (120 - n) ≤ x = (le-div_iff_mul-le (pow_pos (120 - n))).0 k in
    let m : 1 * 2 ^ (120 - n) * 2 ^ n ≤ x * 2 ^ n = mul-le-mul_right (2 ^ n) l in
    let s : 2 ^ (120 - n + n) ≡ 2 ^ (120 - n) * 2 ^ n = pow-add 2 (120 - n) n in
    let t : 2 ^ (120 - n + n) ≡ 2 ^ 120 = ap (λ (z : ℕ). 2 ^ z) (let q : 120 - n + n ≡ 120 = omega arith in q) in
    omega (arith, m, s, t)

pub too_far : (x n : ℕ) → 120 ≤ n → 0 < x → 2 ^ 120 ≤ x * 2 ^ n
too_far x n h p =
    let m : 1 * 2 ^ n ≤ x * 2 ^ n = mul-le-mul_right (2 ^ n) p in
    let k : 2 ^ 120 ≤ 2 ^ n = pow_mono h in
    omega (arith, m, k)

-- `1 << n`
pub one : (n : ℕ) → n < 128 → 1 * 2 ^ n % 2 ^ 128 ≡ 2 ^ n
one n h = one_shl n 128 h

-- x and y * p, where p goes into x and where it does not
pub whole_multiple : (x y p : ℕ) → 0 < p → x % p ≡ 0 → nat_eq (x / p) y ≡ nat_eq x (y * p)
whole_multiple x y p h e =
    same_eq (x / p) y x (y * p)
    (λ q. sym (div-add-mod' x p) ∙ ap (λ (z : ℕ). x / p * p + z) e ∙ (let k : x / p * p + 0 ≡ x / p * p = omega arith in k)
    ∙ ap (λ (z : ℕ). z * p) q)
    (λ q. ap (λ (z : ℕ). z / p) q ∙ mul-div_cancel y h)

pub no_multiple : (x y p : ℕ) → (x % p ≡ 0 → ⊥) → x ≡ y * p → ⊥
no_multiple x y p e q = e (ap (λ (z : ℕ). z % p) q ∙ mul-mod_left y p)

-- where 2 ^ n is longer than x
pub beyond : (x y n : ℕ) → x < 2 ^ 128 → 128 ≤ n → x ≡ y * 2 ^ n → y ≡ 0
beyond x y n h k q = elim (eq-zero-or-pos y) [
  | inl z ↦ z
  | inr p ↦
      let m : 1 * 2 ^ n ≤ y * 2 ^ n = mul-le-mul_right (2 ^ n) p in
      let l : 2 ^ 128 ≤ 2 ^ n = pow_mono k in
      absurd (omega (arith, m, l, q, h))
]

-- ---- a number cut at 2 ^ p

-- with digits above p
pub cut_above : (x i p : ℕ) → p ≤ i → (x * 2 ^ (i - p) ≡ x * 2 ^ i / 2 ^ p) × (x * 2 ^ i % 2 ^ p ≡ 0)
cut_above x i p h =
    let e : x * 2 ^ (i - p) * 2 ^ p ≡ x * 2 ^ i = power_split x p i h in (
      sym (mul-div_cancel (x * 2 ^ (i - p)) (pow_pos p)) ∙ ap (λ (z : ℕ). z / 2 ^ p) e,
      sym (ap (λ (z : ℕ). z % 2 ^ p) e) ∙ mul-mod_left (x * 2 ^ (i - p)) (2 ^ p),
    )

pub below_108 : (x n : ℕ) → x < 2 ^ 106 → n < 2 → x * 2 ^ n < 2 ^ 108
below_108 x n h k =
    let k' : n ≤ 1 = omega (arith, k) in
    let m : 2 ^ n ≤ 2 ^ 1 = pow_mono k' in
    let l : x * 2 ^ n ≤ x * 2 ^ 1 = mul-le-mul_left x m in
    omega (arith, l, h)

-- with digits below p
cut : (x i n r : ℕ) → x % 2 ^ n ≡ r → (x / 2 ^ n ≡ x * 2 ^ i / (2 ^ n * 2 ^ i)) × (x * 2 ^ i % (2 ^ n * 2 ^ i) ≡ r * 2 ^ i)
cut x i n r e =
    let q = x / 2 ^ n in
    let l : r < 2 ^ n = let k : x % 2 ^ n < 2 ^ n = mod_below x (2 ^ n) (pow_pos n) in omega (arith, k, e) in
    let s : q * 2 ^ n + r ≡ x = ap (λ (z : ℕ). q * 2 ^ n + z) (sym e) ∙ div-add-mod' x (2 ^ n) in
    let t : q * (2 ^ n * 2 ^ i) + r * 2 ^ i ≡ x * 2 ^ i = omega (arith, ap (λ (z : ℕ). z * 2 ^ i) s) in
    let k : r * 2 ^ i < 2 ^ n * 2 ^ i = mul-lt-mul_of_pos_right l (pow_pos i) in (
      sym (digits_div q k) ∙ ap (λ (z : ℕ). z / (2 ^ n * 2 ^ i)) t,
      ap (λ (z : ℕ). z % (2 ^ n * 2 ^ i)) (sym t) ∙ digits_mod q k,
    )

pub cut_below : (x i p : ℕ) → i ≤ p → (x / 2 ^ (p - i) ≡ x * 2 ^ i / 2 ^ p) × (x * 2 ^ i % 2 ^ p ≡ x % 2 ^ (p - i) * 2 ^ i)
cut_below x i p h =
    let e : 2 ^ (p - i) * 2 ^ i ≡ 2 ^ p = let k : 1 * 2 ^ (p - i) * 2 ^ i ≡ 1 * 2 ^ p = power_split 1 i p h in omega (arith, k) in
    let k = cut x i (p - i) (x % 2 ^ (p - i)) refl in
    (k.0 ∙ ap (λ (z : ℕ). x * 2 ^ i / z) e, ap (λ (z : ℕ). x * 2 ^ i % z) (sym e) ∙ k.1)

-- whether a rest is there
pub rest_test : (r s i : ℕ) → s ≡ r * 2 ^ i → not (nat_eq r 0) ≡ nat_lt 0 s
rest_test r s i e = elim (eq-zero-or-pos r) [
  | inl z ↦ ap not (eq-eqb r 0 z)
      ∙ sym (le-ltb 0 s (let k : s ≡ 0 = e ∙ ap (λ (x : ℕ). x * 2 ^ i) z ∙ zero-mul (2 ^ i) in omega (arith, k)))
  | inr p ↦
      let k : 0 < s = let m : 0 < r * 2 ^ i = mul-pos p (pow_pos i) in omega (arith, m, e) in
      ap not (ne_eqb r 0 (λ z. absurd (omega (arith, z, p)))) ∙ sym (lt-ltb 0 s k)
]

pub no_digits : (x n : ℕ) → x < 2 ^ 106 → 128 ≤ n → (x / 2 ^ n ≡ 0) × (x % 2 ^ n ≡ x)
no_digits x n h k =
    let l : x < 2 ^ n = let m : 2 ^ 128 ≤ 2 ^ n = pow_mono k in omega (arith, m, h) in
    (div-eq_of_lt l, mod-eq_of_lt l)
