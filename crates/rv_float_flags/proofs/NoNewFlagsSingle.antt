-- Sums, products, quotients and roots of singles that are known at once to raise no new flags do raise none.
use Rattle.std.proofs.Common.{◌≡◌, ℕ, ◌*◌, ◌%◌, ◌<◌, true, false, ◌&&◌, ◌||◌, nat_eq, nat_le, ap, ◌∙◌, arith, inl, inr}
use Rattle.std.proofs.Math.Nat.{zero-mul}
use Rattle.std.proofs.lemmas.Bool.{and_parts, eqb-true, leb-true, ltb-true, or_cases}
use Rattle.std.specs.Float.{float_zero}
use Rattle.rv_float_flags.specs.Flags.{accrued}
use Rattle.rv_float_flags.specs.NoNewFlags.{is_single_finite, is_single_middling, is_single_moderate, single_product_raises_no_new_flags}
use Rattle.rv_float_flags.specs.NoNewFlags.{single_quotient_raises_no_new_flags, single_sum_raises_no_new_flags}
use Rattle.rv_float_flags.specs.Operations.{add_flags, div_flags, mul_flags, sqrt_flags, sub_flags}
use Rattle.rv_float_flags.specs.Scaled.{single_exponent}
use Rattle.rv_float_flags.specs.declared.flags.Flags.{Flags}
use Rattle.rv_float_flags.proofs.NoNewFlagsDouble.{root_flags_there}
use Rattle.rv_float_flags.proofs.Singles.{difference, finite, middling, moderate, product, product_of_zero, quotient, sum, Finite, Middling}
use Rattle.rv_float_flags.proofs.Singles.{Moderate}
use lib.Ieee.{add, binary32, div, lt, mul, of_bits, sub, to_bits}

finite_so : (a : ℕ) → is_single_finite a ≡ true → Finite a
finite_so a h = let l = ltb-true (single_exponent a) 255 h in finite a (omega (arith, l))

moderate_so : (a : ℕ) → is_single_moderate a ≡ true → Moderate a
moderate_so a h = moderate a (ltb-true (single_exponent a) 253 h)

pub middling_so : (a : ℕ) → is_single_middling a ≡ true → Middling a
middling_so a h = let each = and_parts _ _ h in middling a (leb-true _ _ each.0) (ltb-true _ _ each.1)

pub middling_below : (a : ℕ) → is_single_middling a ≡ true → a % 2147483648 < 2139095040
middling_below a h = let l = ltb-true (single_exponent a) 190 (and_parts (nat_le 64 (single_exponent a)) _ h).1 in omega (arith, l)

-- neither of the two is a NaN
pub sum_below : (g : Flags) (a b : ℕ) → single_sum_raises_no_new_flags g a b ≡ true
    → (a % 2147483648 < 2139095040) × (b % 2147483648 < 2139095040)
sum_below g a b h =
    let last = and_parts _ _ h in
    let l = ltb-true (single_exponent a) 253 (and_parts _ _ last.0).1 in
    let m = ltb-true (single_exponent b) 253 last.1 in
    (omega (arith, l), omega (arith, m))

pub sum_raises_none : (g : Flags) (a b z : ℕ) → single_sum_raises_no_new_flags g a b ≡ true
    → z ≡ to_bits binary32 (add binary32 (of_bits binary32 a) (of_bits binary32 b)) → accrued g (add_flags binary32 a b) ≡ g
sum_raises_none g a b z h is = let last = and_parts _ _ h in let first = and_parts _ _ last.0 in
    sum g a b z (moderate_so a first.1) (moderate_so b last.1) first.0 is

pub difference_raises_none : (g : Flags) (a b z : ℕ) → single_sum_raises_no_new_flags g a b ≡ true
    → z ≡ to_bits binary32 (sub binary32 (of_bits binary32 a) (of_bits binary32 b)) → accrued g (sub_flags binary32 a b) ≡ g
difference_raises_none g a b z h is = let last = and_parts _ _ h in let first = and_parts _ _ last.0 in
    difference g a b z (moderate_so a first.1) (moderate_so b last.1) first.0 is

pub product_below : (g : Flags) (a b : ℕ) → single_product_raises_no_new_flags g a b ≡ true
    → (a % 2147483648 < 2139095040) × (b % 2147483648 < 2139095040)
product_below g a b h =
    elim (or_cases (g.nx && is_single_middling a && is_single_middling b)
    (is_single_finite a && is_single_finite b && (nat_eq (a % 2147483648) 0 || nat_eq (b % 2147483648) 0)) h) [
      | inl l ↦
          let last = and_parts (g.nx && is_single_middling a) (is_single_middling b) l in
          let m = middling_below a (and_parts g.nx (is_single_middling a) last.0).1 in
          let n = middling_below b last.1 in
          (m, n)
      | inr r ↦
          let first = and_parts (is_single_finite a) (is_single_finite b) (and_parts (is_single_finite a && is_single_finite b) _ r).0 in
          let m = ltb-true (single_exponent a) 255 first.0 in
          let n = ltb-true (single_exponent b) 255 first.1 in
          (omega (arith, m), omega (arith, n))
    ]

pub product_raises_none : (g : Flags) (a b z : ℕ) → single_product_raises_no_new_flags g a b ≡ true
    → z ≡ to_bits binary32 (mul binary32 (of_bits binary32 a) (of_bits binary32 b)) → accrued g (mul_flags binary32 a b) ≡ g
product_raises_none g a b z h is = elim (or_cases _ _ h) [
  | inl l ↦
      let last = and_parts _ _ l in
      let first = and_parts _ _ last.0 in
      product g a b z (middling_so a first.1) (middling_so b last.1) first.0 is
  | inr r ↦
      let last = and_parts _ _ r in
      let first = and_parts _ _ last.0 in
      product_of_zero g a b z (finite_so a first.0) (finite_so b first.1)
      (elim (or_cases _ _ last.1) [
        | inl at ↦ ap (λ (n : ℕ). n * (b % 2147483648)) (eqb-true _ _ at) ∙ zero-mul (b % 2147483648)
        | inr at ↦ ap (λ (n : ℕ). a % 2147483648 * n) (eqb-true _ _ at) ∙ omega arith
      ])
      is
]

pub both_middling : (g : Flags) (a b : ℕ) → single_quotient_raises_no_new_flags g a b ≡ true
    → (is_single_middling a ≡ true) × (is_single_middling b ≡ true)
both_middling g a b h = let last = and_parts _ _ h in ((and_parts _ _ last.0).1, last.1)

pub quotient_raises_none : (g : Flags) (a b z : ℕ) → single_quotient_raises_no_new_flags g a b ≡ true
    → z ≡ to_bits binary32 (div binary32 (of_bits binary32 a) (of_bits binary32 b)) → accrued g (div_flags binary32 a b) ≡ g
quotient_raises_none g a b z h is = let last = and_parts _ _ h in let first = and_parts _ _ last.0 in
    quotient g a b z (middling_so a first.1) (middling_so b last.1) first.0 is

pub root_raises_none : (g : Flags) (a : ℕ) → g.nx ≡ true → is_single_finite a ≡ true → lt (of_bits binary32 a) float_zero ≡ false
    → accrued g (sqrt_flags binary32 a) ≡ g
root_raises_none g a there h above = root_flags_there binary32 g a there (finite_so a h).magnitude.finite above
