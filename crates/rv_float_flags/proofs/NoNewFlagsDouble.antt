-- Sums, products and roots of doubles that are known at once to raise no new flags do raise none.
use Rattle.std.proofs.Common.{◌≡◌, ℕ, ◌*◌, ◌%◌, ◌<◌, Bool, true, false, not, cond, ◌&&◌, ◌||◌, ◌⊎◌, ap, sym, ◌∙◌, refl, arith, inl, inr}
use Rattle.std.proofs.Math.Nat.{zero-mul}
use Rattle.std.proofs.lemmas.Bool.{and_parts, eqb-true, leb-true, ltb-true, or_cases}
use Rattle.rv_float_flags.specs.Flags.{accrued, inexact_if, invalid, no_flags}
use Rattle.rv_float_flags.specs.NoNewFlags.{are_near, are_short, has_zero, is_finite, is_moderate, double_product_raises_no_new_flags}
use Rattle.rv_float_flags.specs.NoNewFlags.{is_product_moderate, double_sum_raises_no_new_flags}
use Rattle.rv_float_flags.specs.Operations.{add_flags, is_root, mul_flags, sqrt_flags, sub_flags}
use Rattle.std.specs.Float.{float_is_finite, float_zero}
use Rattle.rv_float_flags.proofs.Operations.{no_signal}
use Rattle.rv_float_flags.proofs.Roundings.{raised_beside}
use Rattle.rv_float_flags.specs.Scaled.{exponent}
use Rattle.rv_float_flags.specs.declared.flags.Flags.{Flags}
use Rattle.rv_float_flags.proofs.FiniteResults.{by_short, by_zero, difference, finite, moderate, nothing, product, product_of_zero, sum}
use Rattle.rv_float_flags.proofs.FiniteResults.{AreShort, Finite, IsExact, Moderate}
use lib.Ieee.{Format, add, binary64, lt, mul, of_bits, sqrt, sub, to_bits}

finite_so : (a : ℕ) → is_finite a ≡ true → Finite a
finite_so a h = let l = ltb-true (exponent a) 2047 h in finite a (omega (arith, l))

moderate_so : (a : ℕ) → is_moderate a ≡ true → Moderate a
moderate_so a h = let l = ltb-true (exponent a) 2045 h in moderate a (omega (arith, l))

short_so : (a b : ℕ) → are_short a b ≡ true → AreShort a b
short_so a b h =
    let each = and_parts _ _ h in
    record { first = eqb-true _ _ each.0; second = eqb-true _ _ each.1 }

zero_so : (a b : ℕ) → has_zero a b ≡ true → a % 9223372036854775808 * (b % 9223372036854775808) ≡ 0
zero_so a b h = elim (or_cases _ _ h) [
  | inl at ↦ ap (λ (n : ℕ). n * (b % 9223372036854775808)) (eqb-true _ _ at) ∙ zero-mul (b % 9223372036854775808)
  | inr at ↦ ap (λ (n : ℕ). a % 9223372036854775808 * n) (eqb-true _ _ at) ∙ omega arith
]

-- it is there, or cannot be
sum_so : (g : Flags) (a b : ℕ) (p : Moderate a) (q : Moderate b) → (g.nx || (are_short a b && are_near a b) || has_zero a b) ≡ true
    → (g.nx ≡ true) ⊎ IsExact p q
sum_so g a b p q h = elim (or_cases _ _ h) [
  | inl l ↦
      elim (or_cases _ _ l) [
        | inl there ↦ inl there
        | inr few ↦
            let parts = and_parts (are_short a b) (are_near a b) few in
            let near = and_parts _ _ parts.1 in
            inr (by_short p q (record { short = short_so a b parts.0; near = leb-true _ _ near.0; far = leb-true _ _ near.1 }))
      ]
  | inr zero ↦ inr (by_zero p q (zero_so a b zero))
]

-- neither of the two is a NaN
pub sum_below : (g : Flags) (a b : ℕ) → double_sum_raises_no_new_flags g a b ≡ true
    → (a % 9223372036854775808 < 9218868437227405312) × (b % 9223372036854775808 < 9218868437227405312)
sum_below g a b h =
    let sizes = and_parts (is_moderate a) (is_moderate b) (and_parts _ _ h).0 in
    let l = ltb-true (exponent a) 2045 sizes.0 in
    let m = ltb-true (exponent b) 2045 sizes.1 in
    (omega (arith, l), omega (arith, m))

pub sum_raises_none : (g : Flags) (a b z : ℕ) → double_sum_raises_no_new_flags g a b ≡ true
    → z ≡ to_bits binary64 (add binary64 (of_bits binary64 a) (of_bits binary64 b))
    → accrued g (add_flags binary64 a b) ≡ g
sum_raises_none g a b z h is =
    let parts = and_parts _ _ h in
    let sizes = and_parts (is_moderate a) (is_moderate b) parts.0 in
    let p = moderate_so a sizes.0 in
    let q = moderate_so b sizes.1 in
    sum g a b z p q (sum_so g a b p q parts.1) is

pub difference_raises_none : (g : Flags) (a b z : ℕ) → double_sum_raises_no_new_flags g a b ≡ true
    → z ≡ to_bits binary64 (sub binary64 (of_bits binary64 a) (of_bits binary64 b))
    → accrued g (sub_flags binary64 a b) ≡ g
difference_raises_none g a b z h is =
    let parts = and_parts _ _ h in
    let sizes = and_parts (is_moderate a) (is_moderate b) parts.0 in
    let p = moderate_so a sizes.0 in
    let q = moderate_so b sizes.1 in
    difference g a b z p q (sum_so g a b p q parts.1) is

pub product_below : (g : Flags) (a b : ℕ) → double_product_raises_no_new_flags g a b ≡ true
    → (a % 9223372036854775808 < 9218868437227405312) × (b % 9223372036854775808 < 9218868437227405312)
product_below g a b h =
    let sizes = and_parts (is_finite a) (is_finite b) (and_parts _ _ h).0 in
    let l = ltb-true (exponent a) 2047 sizes.0 in
    let m = ltb-true (exponent b) 2047 sizes.1 in
    (omega (arith, l), omega (arith, m))

pub product_raises_none : (g : Flags) (a b z : ℕ) → double_product_raises_no_new_flags g a b ≡ true
    → z ≡ to_bits binary64 (mul binary64 (of_bits binary64 a) (of_bits binary64 b))
    → accrued g (mul_flags binary64 a b) ≡ g
product_raises_none g a b z h is =
    let parts = and_parts _ _ h in
    let sizes = and_parts (is_finite a) (is_finite b) parts.0 in
    let p = finite_so a sizes.0 in
    let q = finite_so b sizes.1 in
    elim (or_cases _ _ parts.1) [
      | inl l ↦
          let each = and_parts (is_product_moderate a b) (g.nx || are_short a b) l in
          let bounds = and_parts _ _ each.0 in
          product g a b z p q (leb-true _ _ bounds.0) (leb-true _ _ bounds.1)
          (elim (or_cases _ _ each.1) [
            | inl there ↦ inl there
            | inr few ↦ inr (short_so a b few)
          ])
          is
      | inr zero ↦ product_of_zero g a b z p q (zero_so a b zero) is
    ]

-- what a root raises is there
inexact_there : (g : Flags) (b : Bool) → g.nx ≡ true → accrued g (inexact_if b) ≡ g
inexact_there g b there = sym (raised_beside g false false false b there refl refl) ∙ nothing g

pub root_flags_there : (f : Format) (g : Flags) (a : ℕ) → g.nx ≡ true → float_is_finite (of_bits f a) ≡ true
    → lt (of_bits f a) float_zero ≡ false → accrued g (sqrt_flags f a) ≡ g
root_flags_there f g a there finite above =
    let x = of_bits f a in
    let found = inexact_if (not (is_root (sqrt f x) x)) in
    ap (λ (b : Bool). accrued g (cond b invalid (cond (lt x float_zero) invalid (cond (float_is_finite x) found no_flags))))
    (no_signal f a finite)
    ∙ ap (λ (b : Bool). accrued g (cond b invalid (cond (float_is_finite x) found no_flags))) above
    ∙ ap (λ (b : Bool). accrued g (cond b found no_flags)) finite
    ∙ inexact_there g _ there

pub root_raises_none : (g : Flags) (a : ℕ) → g.nx ≡ true → is_finite a ≡ true → lt (of_bits binary64 a) float_zero ≡ false
    → accrued g (sqrt_flags binary64 a) ≡ g
root_raises_none g a there h above = root_flags_there binary64 g a there (finite_so a h).magnitude.finite above
