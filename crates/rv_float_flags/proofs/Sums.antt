-- A sum of values of a format is a multiple of its smallest value, so that it is exact where it is tiny.
use Rattle.std.proofs.Common.{◌≡◌, ℕ, zero, suc, ◌-◌, ◌*◌, ◌^◌, ◌<◌, ◌≤◌, Bool, true, false, not, sym, ap, ◌∙◌, arith, inl, inr}
use Rattle.std.proofs.Math.Nat.{lt_of_mul-lt-mul_right, mul-pos, sub-add_cancel, zero-mul}
use Rattle.std.proofs.lemmas.Bool.{and_parts, cases_lt, leb-true, ltb-true, true≢false}
use Rattle.std.proofs.lemmas.Nat.{pow-add, pow_below}
use Rattle.std.specs.Float.{float_is_finite, is_sign_negative}
use Rattle.rv_float_flags.specs.Exact.{combined, exact_sum, is_inexact, is_tiny}
use Rattle.rv_float_flags.proofs.Numbers.{combined_times}
use Rattle.rv_float_flags.proofs.Roundings.{multiple, size_pos}
use Rattle.rv_float_flags.proofs.Tiny.{tiny_quarters}
use lib.IntN.{ℤ, pos, negsuc}
use lib.Ieee.{Float, Format, nan, inf, fin, down, fits, low, prec, size, unlike, up}
use lib.Ieee.Positive.{den, den_pos, num}

-- how many times the smallest value x is
abbrev Multiple : Format → Float → Type 0
Multiple f x = (k : ℕ) × (num x * 2 ^ low f ≡ k * den x)

power_back : (a l : ℕ) → 2 ^ a ≤ 2 ^ l → a ≤ l
power_back a l h = elim (cases_lt l a) [
  | inl g ↦ let k : 2 ^ l < 2 ^ a = pow_below l a g in absurd (omega (arith, h, k))
  | inr g ↦ g
]

placed : (f : Format) (s : Bool) (m : ℕ) (e : ℤ) → down e ≤ 2 ^ low f → Multiple f (fin s m e)
placed f s m (pos a) h = (m * 2 ^ a * 2 ^ low f, omega arith)
placed f s m (negsuc a) h =
    let l : suc a ≤ low f = power_back (suc a) (low f) h in
    let e : 2 ^ (low f - suc a) * 2 ^ suc a ≡ 2 ^ low f =
    sym (pow-add 2 (low f - suc a) (suc a)) ∙ ap (λ (x : ℕ). 2 ^ x) (sub-add_cancel l) in
    (m * 2 ^ (low f - suc a), omega (arith, ap (λ (x : ℕ). m * x) e))

whole : (f : Format) (x : Float) → fits f x ≡ true → float_is_finite x ≡ true → Multiple f x
unfolding fits float_is_finite
whole f nan h g = absurd (true≢false (sym g))
whole f (inf s) h g = absurd (true≢false (sym g))
whole f (fin s zero e) h g = (0, ap (λ (x : ℕ). x * 2 ^ low f) (zero-mul (up e)) ∙ zero-mul (2 ^ low f) ∙ sym (zero-mul (down e)))
whole f (fin s (suc m) e) h g = placed f s (suc m) e (leb-true (down e) (2 ^ low f) (and_parts _ _ (and_parts _ _ h).0).1)

pub tiny_sum_exact : (f : Format) (x y : Float) → fits f x ≡ true → fits f y ≡ true → float_is_finite x ≡ true → float_is_finite y ≡ true
    → is_tiny f (exact_sum x y) ≡ true → is_inexact f (exact_sum x y) ≡ false
tiny_sum_exact f x y hx hy gx gy t =
    let r = exact_sum x y in
    let o = unlike (is_sign_negative x) (is_sign_negative y) in
    let j = whole f x hx gx in
    let k = whole f y hy gy in
    let d : 0 < den x * den y = mul-pos (den_pos x) (den_pos y) in
    let w = combined o j.0 k.0 in
    let a : num x * den y * 2 ^ low f ≡ j.0 * (den x * den y) = omega (arith, ap (λ (z : ℕ). z * den y) j.1) in
    let b : num y * den x * 2 ^ low f ≡ k.0 * (den x * den y) = omega (arith, ap (λ (z : ℕ). z * den x) k.1) in
    let e : r.numerator * 2 ^ low f ≡ w * r.denominator =
    sym (combined_times o (num x * den y) (num y * den x) (2 ^ low f))
    ∙ ap (λ (z : ℕ). combined o z (num y * den x * 2 ^ low f)) a
    ∙ ap (λ (z : ℕ). combined o (j.0 * (den x * den y)) z) b
    ∙ combined_times o j.0 k.0 (den x * den y)
    in
    let s = size r.denominator in
    let below : r.numerator * 2 ^ low f * 4 < (2 * 2 ^ prec f - 1) * r.denominator =
    ltb-true (r.numerator * 2 ^ low f * 4) ((2 * 2 ^ prec f - 1) * r.denominator)
    (sym (tiny_quarters f r.numerator r.denominator s d (size_pos r.denominator d)) ∙ (and_parts _ _ t).1)
    in
    let l : w * 4 < 2 * 2 ^ prec f - 1 = lt_of_mul-lt-mul_right r.denominator (omega (arith, below, ap (λ (z : ℕ). z * 4) e)) in
    ap not (multiple f r w d (omega (arith, l)) e)
