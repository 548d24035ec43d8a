-- Sums against a limit, by whole multiples of q.
use Rattle.std.proofs.Common.{◌≡◌, ℕ, ◌+◌, ◌-◌, ◌*◌, ◌/◌, ◌%◌, ◌<◌, ◌≤◌, Bool, true, false, nat_eq, nat_lt, sym, ap, ◌∙◌, arith, inl, inr}
use Rattle.std.proofs.Math.Nat.{div-add-mod', mul-le-mul_right, lt_of_mul-lt-mul_right, sub-add_cancel}
use Rattle.std.proofs.lemmas.Bool.{cases_lt, eq-eqb, le-ltb, lt-ltb, ne_eqb}
use Rattle.std.proofs.lemmas.Nat.{mod_below}
use Rattle.std.specs.Int.{abs_diff}
use Rattle.rv_float_flags.specs.Exact.{combined}
use Rattle.rv_float_flags.proofs.Numbers.{same_lt}

-- ---- w * q + r and v * q against l * q

below_sum : (w v l q r : ℕ) → r < q → nat_lt (w + v) l ≡ nat_lt (w * q + r + v * q) (l * q)
below_sum w v l q r h =
    same_lt (w + v) l (w * q + r + v * q) (l * q)
    (λ k. let m : (w + v + 1) * q ≤ l * q = mul-le-mul_right q (omega (arith, k)) in omega (arith, m, h))
    (λ k. lt_of_mul-lt-mul_right q (omega (arith, k)))

below_upper : (w v l q r : ℕ) → r < q → v ≤ w → nat_lt (w - v) l ≡ nat_lt (abs_diff (w * q + r) (v * q)) (l * q)
below_upper w v l q r h g =
    let d = w - v in
    let e : d + v ≡ w = sub-add_cancel g in
    let f : d * q + v * q ≡ w * q = omega (arith, ap (λ (z : ℕ). z * q) e) in
    same_lt d l (abs_diff (w * q + r) (v * q)) (l * q)
    (λ k. let m : (d + 1) * q ≤ l * q = mul-le-mul_right q (omega (arith, k)) in omega (arith, m, h, f))
    (λ k. lt_of_mul-lt-mul_right q (omega (arith, k, f)))

-- where the difference is the other way round, a rest takes it below the limit that it would meet
lower : (w v l q r : ℕ) → r < q → w < v → (abs_diff (w * q + r) (v * q) + r ≡ (v - w) * q)
lower w v l q r h g =
    let d = v - w in
    let e : d + w ≡ v = sub-add_cancel (let k : w ≤ v = omega (arith, g) in k) in
    let f : d * q + w * q ≡ v * q = omega (arith, ap (λ (z : ℕ). z * q) e) in
    let m : 1 * q ≤ d * q = mul-le-mul_right q (omega (arith, g)) in
    omega (arith, f, m, h)

lower_lt : (d l q : ℕ) → d < l → d * q + q ≤ l * q
lower_lt d l q h = let m : (d + 1) * q ≤ l * q = mul-le-mul_right q (omega (arith, h)) in omega (arith, m)

below_lower : (w v l q r : ℕ) → 0 < q → r < q → w < v → v - w < l → true ≡ nat_lt (abs_diff (w * q + r) (v * q)) (l * q)
below_lower w v l q r p h g k = sym (lt-ltb _ _ (omega (arith, lower w v l q r h g, lower_lt (v - w) l q k, p)))

at_limit : (w v l q r : ℕ) → r < q → w < v → l ≤ v - w → 0 < r → nat_eq (v - w) l ≡ nat_lt (abs_diff (w * q + r) (v * q)) (l * q)
at_limit w v l q r h g k p = elim (cases_lt l (v - w)) [
  | inl m ↦
      ne_eqb (v - w) l (λ e. omega (arith, e, m))
      ∙ sym (le-ltb _ _ (omega (arith, lower w v l q r h g, lower_lt l (v - w) q m, h)))
  | inr m ↦
      let e : v - w ≡ l = omega (arith, m, k) in
      let f : (v - w) * q ≡ l * q = ap (λ (z : ℕ). z * q) e in
      eq-eqb (v - w) l e ∙ sym (lt-ltb _ _ (omega (arith, lower w v l q r h g, f, p)))
]

not_below : (w v l q r : ℕ) → r < q → w < v → l ≤ v - w → r ≡ 0 → false ≡ nat_lt (abs_diff (w * q + r) (v * q)) (l * q)
not_below w v l q r h g k z =
    let m : l * q ≤ (v - w) * q = mul-le-mul_right q k in
    sym (le-ltb _ _ (omega (arith, lower w v l q r h g, m, z)))

-- ---- the same of a that is cut at q, and of b, a multiple of it

cut_again : (a q w : ℕ) → w ≡ a / q → w * q + a % q ≡ a
cut_again a q w h = ap (λ (z : ℕ). z * q + a % q) h ∙ div-add-mod' a q

of_sum : (o : Bool) (a b q w v : ℕ) → w ≡ a / q → v * q ≡ b → o ≡ false → w * q + a % q + v * q ≡ combined o a b
of_sum o a b q w v h e f = let k : w * q + a % q + v * q ≡ a + b = omega (arith, cut_again a q w h, e) in
    k ∙ ap (λ (z : Bool). combined z a b) (sym f)

of_difference : (o : Bool) (a b q w v : ℕ) → w ≡ a / q → v * q ≡ b → o ≡ true → abs_diff (w * q + a % q) (v * q) ≡ combined o a b
of_difference o a b q w v h e f =
    ap (λ (z : ℕ). abs_diff z (v * q)) (cut_again a q w h) ∙ ap (λ (z : ℕ). abs_diff a z) e ∙ ap (λ (z : Bool). combined z a b) (sym f)

pub sum_test : (o : Bool) (a b q w v l : ℕ) → 0 < q → w ≡ a / q → v * q ≡ b → o ≡ false → nat_lt (w + v) l ≡ nat_lt (combined o a b) (l * q)
sum_test o a b q w v l p h e f = below_sum w v l q (a % q) (mod_below a q p) ∙ ap (λ (z : ℕ). nat_lt z (l * q)) (of_sum o a b q w v h e f)

pub upper_test : (o : Bool) (a b q w v l : ℕ) → 0 < q → w ≡ a / q → v * q ≡ b → o ≡ true → v ≤ w
    → nat_lt (w - v) l ≡ nat_lt (combined o a b) (l * q)
upper_test o a b q w v l p h e f g =
    below_upper w v l q (a % q) (mod_below a q p) g ∙ ap (λ (z : ℕ). nat_lt z (l * q)) (of_difference o a b q w v h e f)

pub lower_test : (o : Bool) (a b q w v l : ℕ) → 0 < q → w ≡ a / q → v * q ≡ b → o ≡ true → w < v → v - w < l
    → true ≡ nat_lt (combined o a b) (l * q)
lower_test o a b q w v l p h e f g k =
    below_lower w v l q (a % q) p (mod_below a q p) g k ∙ ap (λ (z : ℕ). nat_lt z (l * q)) (of_difference o a b q w v h e f)

pub limit_test : (o : Bool) (a b q w v l : ℕ) → 0 < q → w ≡ a / q → v * q ≡ b → o ≡ true → w < v → l ≤ v - w → 0 < a % q
    → nat_eq (v - w) l ≡ nat_lt (combined o a b) (l * q)
limit_test o a b q w v l p h e f g k r =
    at_limit w v l q (a % q) (mod_below a q p) g k r ∙ ap (λ (z : ℕ). nat_lt z (l * q)) (of_difference o a b q w v h e f)

pub past_test : (o : Bool) (a b q w v l : ℕ) → 0 < q → w ≡ a / q → v * q ≡ b → o ≡ true → w < v → l ≤ v - w → a % q ≡ 0
    → false ≡ nat_lt (combined o a b) (l * q)
past_test o a b q w v l p h e f g k r =
    not_below w v l q (a % q) (mod_below a q p) g k r ∙ ap (λ (z : ℕ). nat_lt z (l * q)) (of_difference o a b q w v h e f)

-- a multiple that is far above both
far_sum : (o : Bool) (a b t : ℕ) → a + t ≤ b → t ≤ combined o a b
far_sum true a b t h = omega arith
far_sum false a b t h = omega arith

pub far_test : (o : Bool) (a b q w v l : ℕ) → 0 < q → w ≡ a / q → v * q ≡ b → w + 1 + l ≤ v → false ≡ nat_lt (combined o a b) (l * q)
far_test o a b q w v l p h e g =
    let m : (w + 1 + l) * q ≤ v * q = mul-le-mul_right q g in
    let k : a + l * q ≤ b = omega (arith, m, cut_again a q w h, mod_below a q p, e) in
    sym (le-ltb _ _ (far_sum o a b (l * q) k))
