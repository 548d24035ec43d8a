-- The library's operations round the exact results, whatever their signs.
use Rattle.std.proofs.Common.{◌≡◌, ℕ, zero, suc, ◌+◌, ◌-◌, ◌*◌, ◌/◌, ◌^◌, ◌<◌, ◌≤◌, Bool, true, false, cond, ◌&&◌, nat_lt, sym, ap, ◌∙◌}
use Rattle.std.proofs.Common.{subst, refl, arith, inl, inr}
use Rattle.std.specs.Prelude.{None, Some}
use Rattle.std.specs.declared.option.Option.{Option}
use Rattle.std.specs.Float.{float_is_finite, float_mul_add, float_zero, is_sign_negative, round_to_format}
use Rattle.std.specs.Int.{abs_diff}
use Rattle.std.proofs.lemmas.Bool.{cases_Bool, ltb-false, ltb-true, ne_eqb, true≢false}
use Rattle.rv_float_flags.specs.Exact.{Ratio, combined, exact_fused, exact_product, exact_quotient, exact_sum, rounded}
use Rattle.rv_float_flags.specs.Scaled.{IsMagnitudeOf}
use Rattle.rv_float_flags.specs.declared.scaled.Scaled.{Scaled}
use Prim.Native.Nat.{compare, ◌%◌}
use lib.Dec.{T, eqb}
use Rattle.std.proofs.Math.Nat.{eq-zero-or-pos, zero-mul}
use lib.Ieee.{Float, Format, nan, inf, fin, add, mul, div, down, emax, eq, fits, level, low, nearest, odd, of_bits, prec, round, size, sum}
use lib.Ieee.{to_bits, units, unlike, up}
use lib.Ieee.Bits.{of_bits-to_bits}
use lib.Ieee.Fits.{core, round_is}
use lib.Ieee.Positive.{den, num}

-- ---- two values of one size

abbrev pub SameSize : Float → Float → Type 0
SameSize x y = (num x ≡ num y) × (den x ≡ den y) × (float_is_finite x ≡ float_is_finite y)

pub magnitude_of : (f : Format) (x y : Float) (p : Option Scaled) → SameSize x y → IsMagnitudeOf f x p → IsMagnitudeOf f y p
magnitude_of f x y None e h = sym e.2 ∙ h
magnitude_of f x y (Some p) e h = record {
  finite = sym e.2 ∙ h.finite;
  value = ap (λ (z : ℕ). z * 2 ^ 1074) (sym e.0) ∙ h.value ∙ ap (λ (z : ℕ). p.digits * 2 ^ p.place * z) e.1;
  narrow = h.narrow;
  coarse = h.coarse;
  low_place = h.low_place;
}

either_odd : (b s t : Bool) (d q k l : ℕ) → SameSize (cond b (odd d s q k l) (inf s)) (cond b (odd d t q k l) (inf t))
unfolding odd float_is_finite
either_odd true s t d zero k l = (refl, refl, refl)
either_odd true s t d (suc q) k l = (refl, refl, refl)
either_odd false s t d q k l = (refl, refl, refl)

either_units : (f : Format) (s t : Bool) (q k : ℕ) → SameSize (units f s q k) (units f t q k)
unfolding units
either_units f s t q k = either_odd (nat_lt (q * 2 ^ k) (2 ^ (low f + suc (emax f)))) s t (suc (prec f)) q k (low f)

either_core : (f : Format) (s t : Bool) (n c k : ℕ) → SameSize (core f s n c k) (core f t n c k)
either_core f s t n c k = either_units f s t (nearest (n / (c * 2 ^ k)) (compare (n % (c * 2 ^ k) * 2) (c * 2 ^ k))) k

pub either_round : (f : Format) (s t : Bool) (a c : ℕ) → SameSize (round f s a c) (round f t a c)
either_round f s t a c =
    let n = a * 2 ^ low f in
    let k = size (n / c) - prec f in
    subst (λ (x : Float). SameSize x (round f t a c)) (sym (round_is f s a c))
    (subst (λ (y : Float). SameSize (core f s n c k) y) (sym (round_is f t a c)) (either_core f s t n c k))

-- the pattern of a value, where the format holds that
pub of_pattern : (f : Format) (v : Float) (p : Option Scaled) → T (fits f v) → IsMagnitudeOf f (of_bits f (to_bits f v)) p
    → IsMagnitudeOf f v p
of_pattern f v p h g = subst (λ (x : Float). IsMagnitudeOf f x p) (of_bits-to_bits f v h) g

-- what is rounded with any sign
pub rounded_so : (f : Format) (s : Bool) (v : Float) (r : Ratio) (p : Option Scaled) → v ≡ round f s r.numerator r.denominator
    → IsMagnitudeOf f v p → IsMagnitudeOf f (rounded f r) p
rounded_so f s v r p e h =
    magnitude_of f (round f s r.numerator r.denominator) (rounded f r) p (either_round f s false r.numerator r.denominator)
    (subst (λ (x : Float). IsMagnitudeOf f x p) e h)

-- ---- sums

apart : (f : Format) (t v : Bool) (a b c : ℕ)
    → (u : Bool) × (cond (nat_lt a b) (round f t (b - a) c) (round f v (a - b) c) ≡ round f u (abs_diff a b) c)
apart f t v a b c = elim (cases_Bool (nat_lt a b)) [
  | inl h ↦
      let l : a < b = ltb-true a b h in
      let e : b - a ≡ (a - b) + (b - a) = omega (arith, l) in
      (t, ap (λ (x : Bool). cond x (round f t (b - a) c) (round f v (a - b) c)) h ∙ ap (λ (n : ℕ). round f t n c) e)
  | inr h ↦
      let l : b ≤ a = ltb-false a b h in
      let e : a - b ≡ (a - b) + (b - a) = omega (arith, l) in
      (v, ap (λ (x : Bool). cond x (round f t (b - a) c) (round f v (a - b) c)) h ∙ ap (λ (n : ℕ). round f v n c) e)
]

signed : (f : Format) (s : Bool) (a : ℕ) (t : Bool) (b c : ℕ) → (u : Bool) × (sum f s a t b c ≡ round f u (combined (unlike s t) a b) c)
unfolding sum
signed f true a true b c = (true, refl)
signed f false a false b c = (false, refl)
signed f true a false b c = apart f false (true && nat_lt b a) a b c
signed f false a true b c = apart f true (false && nat_lt b a) a b c

pub add_rounds : (f : Format) (x y : Float) → float_is_finite x ≡ true → float_is_finite y ≡ true
    → (u : Bool) × (add f x y ≡ round f u (exact_sum x y).numerator (exact_sum x y).denominator)
unfolding add float_is_finite is_sign_negative
add_rounds f nan y h g = absurd (true≢false (sym h))
add_rounds f (inf s) y h g = absurd (true≢false (sym h))
add_rounds f (fin s m e) nan h g = absurd (true≢false (sym g))
add_rounds f (fin s m e) (inf t) h g = absurd (true≢false (sym g))
add_rounds f (fin s m e) (fin t n d) h g = signed f s (m * up e * down d) t (n * up d * down e) (down e * down d)

pub fused_rounds : (f : Format) (x y z : Float) → float_is_finite x ≡ true → float_is_finite y ≡ true → float_is_finite z ≡ true
    → (u : Bool) × (float_mul_add f x y z ≡ round f u (exact_fused x y z).numerator (exact_fused x y z).denominator)
unfolding float_mul_add float_is_finite is_sign_negative
fused_rounds f nan y z h g k = absurd (true≢false (sym h))
fused_rounds f (inf s) y z h g k = absurd (true≢false (sym h))
fused_rounds f (fin s m e) nan z h g k = absurd (true≢false (sym g))
fused_rounds f (fin s m e) (inf t) z h g k = absurd (true≢false (sym g))
fused_rounds f (fin s m e) (fin t n d) nan h g k = absurd (true≢false (sym k))
fused_rounds f (fin s m e) (fin t n d) (inf v) h g k = absurd (true≢false (sym k))
fused_rounds f (fin s m e) (fin t n d) (fin v l i) h g k =
    signed f (unlike s t) (m * up e * (n * up d) * down i) v (l * up i * (down e * down d)) (down e * down d * down i)

-- ---- products, quotients, one value

pub mul_rounds : (f : Format) (x y : Float) → float_is_finite x ≡ true → float_is_finite y ≡ true
    → (u : Bool) × (mul f x y ≡ round f u (exact_product x y).numerator (exact_product x y).denominator)
unfolding mul float_is_finite
mul_rounds f nan y h g = absurd (true≢false (sym h))
mul_rounds f (inf s) y h g = absurd (true≢false (sym h))
mul_rounds f (fin s m e) nan h g = absurd (true≢false (sym g))
mul_rounds f (fin s m e) (inf t) h g = absurd (true≢false (sym g))
mul_rounds f (fin s m e) (fin t n d) h g = (unlike s t, refl)

pub div_rounds : (f : Format) (x y : Float) → float_is_finite x ≡ true → float_is_finite y ≡ true → 0 < num y
    → (u : Bool) × (div f x y ≡ round f u (exact_quotient x y).numerator (exact_quotient x y).denominator)
unfolding div float_is_finite
div_rounds f nan y h g p = absurd (true≢false (sym h))
div_rounds f (inf s) y h g p = absurd (true≢false (sym h))
div_rounds f (fin s m e) nan h g p = absurd (true≢false (sym g))
div_rounds f (fin s m e) (inf t) h g p = absurd (true≢false (sym g))
div_rounds f (fin s m e) (fin t n d) h g p = (
  unlike s t,
  ap (λ (b : Bool). cond b (cond (eqb m 0) nan (inf (unlike s t))) (round f (unlike s t) (m * up e * down d) (n * up d * down e)))
      (ne_eqb n 0 (λ z. let a : n * up d ≡ 0 = ap (λ (x : ℕ). x * up d) z ∙ zero-mul (up d) in absurd (omega (arith, a, p)))),
)

pub value_rounds : (f : Format) (x : Float) → float_is_finite x ≡ true → (u : Bool) × (round_to_format f x ≡ round f u (num x) (den x))
unfolding round_to_format float_is_finite
value_rounds f nan h = absurd (true≢false (sym h))
value_rounds f (inf s) h = absurd (true≢false (sym h))
value_rounds f (fin s m e) h = (s, refl)

-- ---- zero

pub not_zero : (x : Float) → float_is_finite x ≡ true → eq x float_zero ≡ false → 0 < num x
unfolding eq float_is_finite
not_zero nan h g = absurd (true≢false (sym h))
not_zero (inf s) h g = absurd (true≢false (sym h))
not_zero (fin s m e) h g = elim (eq-zero-or-pos (m * up e)) [
  | inl z ↦
      let a : m * up e * 1 ≡ 0 = omega (arith, z) in
      let b : 0 * 1 * down e ≡ 0 = omega arith in
      let l : level s (m * up e * 1) false (0 * 1 * down e) ≡ true =
      ap (λ (i : ℕ). level s i false (0 * 1 * down e)) a ∙ ap (λ (i : ℕ). level s 0 false i) b ∙ zeros s
      in
      absurd (true≢false (sym l ∙ g))
  | inr p ↦ p
]
  where
    zeros : (s : Bool) → level s 0 false 0 ≡ true
    zeros true = refl
    zeros false = refl
