-- What of a rounding follows from the exact result as a multiple of 2 ^ -2148.
use Rattle.std.proofs.Common.{◌≡◌, ℕ, zero, suc, ◌+◌, ◌-◌, ◌*◌, ◌^◌, ◌<◌, ◌≤◌, Bool, true, false, cond, not, ◌&&◌, nat_eq, nat_lt, sym, ap}
use Rattle.std.proofs.Common.{◌∙◌, subst, refl, arith, inl, inr}
use Rattle.std.proofs.Math.Nat.{eq_of_mul-eq-mul_right, eq-zero-or-pos, lt_of_mul-lt-mul_right, mul-pos, pow-succ', zero-mul}
use Rattle.std.proofs.Math.Pow.{pow_mono}
use Rattle.std.proofs.lemmas.Bool.{cases_Bool, eq-eqb, lt-ltb, ltb-true}
use Rattle.std.proofs.lemmas.Nat.{pow-add, pow_pos}
use Rattle.std.specs.Float.{float_is_finite, float_is_infinite}
use Rattle.rv_float_flags.specs.Exact.{Ratio, combined, is_exactly, is_inexact, is_tiny, overflows, rounded}
use Rattle.rv_float_flags.specs.Scaled.{amount, IsFraction, IsLimit, IsMagnitude, IsMagnitudeOf}
use Rattle.rv_float_flags.specs.declared.scaled.Scaled.{Scaled}
use Rattle.rv_float_flags.specs.Flags.{accrued, overflow_if, rounding_flags}
use Rattle.rv_float_flags.specs.declared.flags.Flags.{Flags}
use Rattle.std.specs.Prelude.{is_some, None, Some}
use Rattle.std.specs.declared.option.Option.{Option}
use Rattle.rv_float_flags.proofs.Numbers.{combined_times, lt_times, power_split, same_eq}
use Rattle.rv_float_flags.proofs.Tiny.{tiny_quarters}
use lib.Ieee.{Float, Format, nan, inf, fin, emax, low, odd, prec, round, size, units}
use lib.Ieee.Digits.{size-lt}
use lib.Ieee.Exact.{HasValue, round_exact}
use lib.Ieee.Fits.{reach, round_is}
use lib.Ieee.Positive.{den, den_pos, num}

-- ---- whether a value is the exact result

cross : (nx dx rn rd n m p u : ℕ) → nx * u ≡ p * dx → rn * (u * u) * m ≡ n * rd → 0 < rd → 0 < dx → 0 < u → 0 < m
    → nat_eq (nx * rd) (rn * dx) ≡ nat_eq n (p * u * m)
cross nx dx rn rd n m p u e f R D U M =
    same_eq (nx * rd) (rn * dx) n (p * u * m)
    (λ g. eq_of_mul-eq-mul_right (rd * dx) (mul-pos R D) n (p * u * m)
    (omega (arith, ap (λ (z : ℕ). z * dx) f, ap (λ (z : ℕ). z * (u * u * m)) g, ap (λ (z : ℕ). z * (u * m * rd)) e)))
    (λ g. eq_of_mul-eq-mul_right (u * u * m) (mul-pos (mul-pos U U) M) (nx * rd) (rn * dx)
    (omega (arith, ap (λ (z : ℕ). z * dx) f, ap (λ (z : ℕ). z * (rd * dx)) g, ap (λ (z : ℕ). z * (u * m * rd)) e)))

pub square : 2 ^ 2148 ≡ 2 ^ 1074 * 2 ^ 1074
square = pow-add 2 1074 1074

pub exactly : (f : Format) (x : Float) (r : Ratio) (p : Scaled) (n m : ℕ) → IsMagnitude f x p → IsFraction r n m
    → is_exactly x r ≡ nat_eq n (amount p * 2 ^ 1074 * m)
exactly f x r p n m h g =
    let e : r.numerator * (2 ^ 1074 * 2 ^ 1074) * m ≡ n * r.denominator = ap (λ (z : ℕ). r.numerator * z * m) (sym square) ∙ g.value in
    ap (λ (b : Bool). b && nat_eq (num x * r.denominator) (r.numerator * den x)) h.finite
    ∙ cross (num x) (den x) r.numerator r.denominator n m (amount p) (2 ^ 1074) h.value e g.nonzero (den_pos x) (pow_pos 1074) g.divisor

pub not_exactly : (x : Float) (r : Ratio) → float_is_finite x ≡ false → is_exactly x r ≡ false
not_exactly x r h = ap (λ (b : Bool). b && nat_eq (num x * r.denominator) (r.numerator * den x)) h

-- ---- a result that is a multiple of the format's smallest value, and not too large

pub exact_value : (x : Float) (a c : ℕ) → HasValue x false a c → float_is_finite x && nat_eq (num x * c) (a * den x) ≡ true
unfolding float_is_finite
exact_value nan a c h = absurd h
exact_value (inf s) a c h = absurd h
exact_value (fin s m e) a c h = eq-eqb _ _ h.1

pub multiple : (f : Format) (r : Ratio) (w : ℕ) → 0 < r.denominator → w < 2 ^ prec f → r.numerator * 2 ^ low f ≡ w * r.denominator
    → is_exactly (rounded f r) r ≡ true
multiple f r w p h e =
    let a : w * 2 ^ 0 ≡ w = omega arith in
    let b : 2 ^ prec f ≤ 2 ^ (low f + suc (emax f)) = pow_mono (let k = reach f in omega (arith, k)) in
    exact_value (rounded f r) r.numerator r.denominator
    (round_exact f false r.numerator r.denominator w 0 p h (omega (arith, a, b, h)) (e ∙ ap (λ (z : ℕ). z * r.denominator) (sym a)))

pub zero_exact : (f : Format) (r : Ratio) → 0 < r.denominator → r.numerator ≡ 0 → is_exactly (rounded f r) r ≡ true
zero_exact f r p z =
    multiple f r 0 p (pow_pos (prec f)) (ap (λ (x : ℕ). x * 2 ^ low f) z ∙ zero-mul (2 ^ low f) ∙ sym (zero-mul r.denominator))

-- ---- a rounded result is finite or infinite

units-finite : (f : Format) (b s : Bool) (d q k l : ℕ)
    → float_is_infinite (cond b (odd d s q k l) (inf s)) ≡ not (float_is_finite (cond b (odd d s q k l) (inf s)))
unfolding odd float_is_finite float_is_infinite
units-finite f true s d zero k l = refl
units-finite f true s d (suc q) k l = refl
units-finite f false s d q k l = refl

units_either : (f : Format) (s : Bool) (q k : ℕ) → float_is_infinite (units f s q k) ≡ not (float_is_finite (units f s q k))
unfolding units
units_either f s q k = units-finite f (nat_lt (q * 2 ^ k) (2 ^ (low f + suc (emax f)))) s (suc (prec f)) q k (low f)

pub either : (f : Format) (s : Bool) (a c : ℕ) → float_is_infinite (round f s a c) ≡ not (float_is_finite (round f s a c))
either f s a c = subst (λ (x : Float). float_is_infinite x ≡ not (float_is_finite x)) (sym (round_is f s a c)) (units_either f s _ _)

-- ---- tininess

limit_is : (f : Format) (l : Scaled) → IsLimit f l → l.digits ≡ 2 * 2 ^ prec f - 1
limit_is f l h =
    let e : 2 ^ (prec f + 1) ≡ 2 * 2 ^ prec f =
    ap (λ (x : ℕ). 2 ^ x) (let q : prec f + 1 ≡ suc (prec f) = omega arith in q) ∙ pow-succ' 2 (prec f) in
    h.digits ∙ ap (λ (x : ℕ). x - 1) e

place_is : (f : Format) (l : Scaled) → IsLimit f l → 2 ^ low f * 4 * 2 ^ l.place ≡ 2 ^ 2148
place_is f l h =
    let a : 2 ^ (l.place + low f + 2) ≡ 2 ^ (l.place + low f) * 2 ^ 2 = pow-add 2 (l.place + low f) 2 in
    let b : 2 ^ (l.place + low f) ≡ 2 ^ l.place * 2 ^ low f = pow-add 2 l.place (low f) in
    let c : 2 ^ (l.place + low f + 2) ≡ 2 ^ 2148 = ap (λ (x : ℕ). 2 ^ x) h.place in
    let d : 2 ^ (l.place + low f) * 4 ≡ 2 ^ l.place * 2 ^ low f * 4 = ap (λ (x : ℕ). x * 4) b in
    (let g : 2 ^ low f * 4 * 2 ^ l.place ≡ 2 ^ (l.place + low f) * 2 ^ 2 = omega (arith, d) in g) ∙ sym a ∙ c

pub size_pos : (n : ℕ) → 0 < n → 0 < size n
size_pos n h = elim (eq-zero-or-pos (size n)) [
  | inl z ↦ let a : n < 2 ^ size n = size-lt n in let b : 2 ^ size n ≡ 1 = ap (λ (x : ℕ). 2 ^ x) z in absurd (omega (arith, a, b, h))
  | inr p ↦ p
]

scaled_test : (rn rd n m l q d v : ℕ) → rn * v * m ≡ n * rd → q * 4 * l ≡ v → 0 < rd → 0 < l → 0 < m
    → nat_lt (rn * q * 4) (d * rd) ≡ nat_lt n (d * l * m)
scaled_test rn rd n m l q d v e f R L M =
    let a : rn * (q * 4 * l) * m ≡ n * rd = ap (λ (z : ℕ). rn * z * m) f ∙ e in
    let b : rn * q * 4 * (l * m) ≡ n * rd = (let k : rn * q * 4 * (l * m) ≡ rn * (q * 4 * l) * m = omega arith in k) ∙ a in
    let c : d * rd * (l * m) ≡ d * l * m * rd = omega arith in
    lt_times (rn * q * 4) (d * rd) (l * m) (mul-pos L M) ∙ ap (λ (z : ℕ). nat_lt z (d * rd * (l * m))) b
    ∙ ap (λ (z : ℕ). nat_lt (n * rd) z) c ∙ sym (lt_times n (d * l * m) rd R)

pub tiny : (f : Format) (r : Ratio) (l : Scaled) (n m : ℕ) → IsLimit f l → IsFraction r n m
    → is_tiny f r ≡ nat_lt 0 r.numerator && nat_lt n (amount l * m)
tiny f r l n m h g =
    let t = size r.denominator in
    ap (λ (b : Bool). nat_lt 0 r.numerator && b)
    (tiny_quarters f r.numerator r.denominator t g.nonzero (size_pos r.denominator g.nonzero)
    ∙ ap (λ (x : ℕ). nat_lt (r.numerator * 2 ^ low f * 4) (x * r.denominator)) (sym (limit_is f l h))
    ∙ scaled_test r.numerator r.denominator n m (2 ^ l.place) (2 ^ low f) l.digits (2 ^ 2148) g.value (place_is f l h) g.nonzero
    (pow_pos l.place) g.divisor)

pub no_and : (x : Bool) → (x && false) ≡ false
no_and true = refl
no_and false = refl

-- with inexactness beside it, the test for zero is not wanted
no_zero : (f : Format) (r : Ratio) (b : Bool) → 0 < r.denominator → (nat_lt 0 r.numerator && b) && is_inexact f r ≡ is_inexact f r && b
no_zero f r b p = elim (eq-zero-or-pos r.numerator) [
  | inl z ↦
      let e : is_inexact f r ≡ false = ap not (zero_exact f r p z) in
      ap (λ (x : Bool). (nat_lt 0 r.numerator && b) && x) e ∙ no_and (nat_lt 0 r.numerator && b) ∙ sym (ap (λ (x : Bool). x && b) e)
  | inr q ↦ ap (λ (x : Bool). (x && b) && is_inexact f r) (lt-ltb 0 r.numerator q) ∙ turned b (is_inexact f r)
]
  where
    no_and : (x : Bool) → (x && false) ≡ false
    no_and true = refl
    no_and false = refl

    turned : (x y : Bool) → (x && y) ≡ (y && x)
    turned true true = refl
    turned true false = refl
    turned false true = refl
    turned false false = refl

pub underflow : (f : Format) (r : Ratio) (l : Scaled) (n m : ℕ) → IsLimit f l → IsFraction r n m
    → is_tiny f r && is_inexact f r ≡ is_inexact f r && nat_lt n (amount l * m)
underflow f r l n m h g = ap (λ (b : Bool). b && is_inexact f r) (tiny f r l n m h g) ∙ no_zero f r (nat_lt n (amount l * m)) g.nonzero

-- a multiple of the format's smallest value that is below the limit is exact
pub coarse_exact : (f : Format) (r : Ratio) (l : Scaled) (n w : ℕ) → IsLimit f l → IsFraction r n 1 → w * 2 ^ (l.place + 2) ≡ n
    → n < amount l
    → is_exactly (rounded f r) r ≡ true
coarse_exact f r l n w h g e k =
    let a : 2 ^ (l.place + 2) ≡ 2 ^ l.place * 2 ^ 2 = pow-add 2 l.place 2 in
    let b : w * 4 * 2 ^ l.place ≡ n =
    (let x : w * 4 * 2 ^ l.place ≡ w * (2 ^ l.place * 2 ^ 2) = omega arith in x) ∙ ap (λ (z : ℕ). w * z) (sym a) ∙ e in
    let c : w * 4 < l.digits = lt_of_mul-lt-mul_right (2 ^ l.place) (omega (arith, b, k)) in
    let d : l.digits ≡ 2 * 2 ^ prec f - 1 = limit_is f l h in
    let s : r.numerator * (2 ^ low f * 4 * 2 ^ l.place) * 1 ≡ n * r.denominator =
    ap (λ (z : ℕ). r.numerator * z * 1) (place_is f l h) ∙ g.value in
    let t : r.numerator * 2 ^ low f * (4 * 2 ^ l.place) ≡ w * r.denominator * (4 * 2 ^ l.place) =
    omega (arith, s, ap (λ (z : ℕ). z * r.denominator) b) in
    let u : 0 < 4 * 2 ^ l.place = let x = pow_pos l.place in omega (arith, x) in
    multiple f r w g.nonzero (omega (arith, c, d))
    (eq_of_mul-eq-mul_right (4 * 2 ^ l.place) u (r.numerator * 2 ^ low f) (w * r.denominator) t)

-- ---- flags

pub finite_some : (f : Format) (x : Float) (p : Option Scaled) → IsMagnitudeOf f x p → float_is_finite x ≡ is_some p
finite_some f x None h = h
finite_some f x (Some q) h = h.finite

pub overflow : (f : Format) (r : Ratio) (p : Option Scaled) (b : Bool) → is_some p ≡ not b → IsMagnitudeOf f (rounded f r) p
    → b ≡ overflows f r
overflow f r p b e h = twice b ∙ ap not (sym e ∙ sym (finite_some f (rounded f r) p h)) ∙ sym (either f false r.numerator r.denominator)
  where
    twice : (b : Bool) → b ≡ not (not b)
    twice true = refl
    twice false = refl

pub flags : (f : Format) (r : Ratio) (o u x : Bool) → o ≡ overflows f r → u ≡ is_tiny f r && is_inexact f r → x ≡ is_inexact f r
    → record { nv = false; dz = false; of = o; uf = u; nx = x } ≡ rounding_flags f r
flags f r o u x a b c = cc

-- what a rounding that does not underflow raises beside flags that have NX
pub raised_beside : (g : Flags) (b o u x : Bool) → g.nx ≡ true → b ≡ o → u ≡ false
    → accrued g (overflow_if b) ≡ accrued g (record { nv = false; dz = false; of = o; uf = u; nx = x })
raised_beside g b o u x there overflows none = rw (there, overflows, none) refl

-- ---- as the code has these numbers

pub sum_at : (d p : ℕ) → d * 2 ^ p * 2 ^ 1074 * 1 ≡ d * 2 ^ (p + 1074)
sum_at d p = let e : d * 2 ^ (p + 1074) ≡ d * (2 ^ p * 2 ^ 1074) = ap (λ (x : ℕ). d * x) (pow-add 2 p 1074) in omega (arith, e)

pub product_at : (d p e q u : ℕ) → d * 2 ^ p * 2 ^ u * (e * 2 ^ q) ≡ d * e * 2 ^ (p + q + u)
product_at d p e q u =
    let a : 2 ^ (p + q + u) ≡ 2 ^ (p + q) * 2 ^ u = pow-add 2 (p + q) u in
    let b : 2 ^ (p + q) ≡ 2 ^ p * 2 ^ q = pow-add 2 p q in
    (let c : d * 2 ^ p * 2 ^ u * (e * 2 ^ q) ≡ d * e * (2 ^ p * 2 ^ q * 2 ^ u) = omega arith in c)
    ∙ ap (λ (x : ℕ). d * e * (x * 2 ^ u)) (sym b) ∙ ap (λ (x : ℕ). d * e * x) (sym a)

pub bound_at : (d p e q : ℕ) → d * 2 ^ p * (e * 2 ^ q) ≡ d * e * 2 ^ (p + q)
bound_at d p e q =
    (let c : d * 2 ^ p * (e * 2 ^ q) ≡ d * e * (2 ^ p * 2 ^ q) = omega arith in c) ∙ ap (λ (x : ℕ). d * e * x) (sym (pow-add 2 p q))

-- a value that is no magnitude is inexact
pub inexact_none : (f : Format) (r : Ratio) → float_is_finite (rounded f r) ≡ false → true ≡ is_inexact f r
inexact_none f r h = sym (ap not (not_exactly (rounded f r) r h))

pub inexact_test : (f : Format) (r : Ratio) (p : Scaled) (n m k : ℕ) → IsMagnitude f (rounded f r) p → IsFraction r n m
    → amount p * 2 ^ 1074 * m ≡ k → not (nat_eq n k) ≡ is_inexact f r
inexact_test f r p n m k h g e = ap (λ (x : ℕ). not (nat_eq n x)) (sym e) ∙ sym (ap not (exactly f (rounded f r) r p n m h g))

-- where both terms of a sum are multiples of the smallest value, it is not both tiny and inexact
pub coarse_none : (f : Format) (r : Ratio) (l : Scaled) (n w : ℕ) → IsLimit f l → IsFraction r n 1 → w * 2 ^ (l.place + 2) ≡ n
    → is_inexact f r && nat_lt n (amount l) ≡ false
coarse_none f r l n w h g e = elim (cases_Bool (nat_lt n (amount l))) [
  | inl t ↦ ap (λ (b : Bool). not b && nat_lt n (amount l)) (coarse_exact f r l n w h g e (ltb-true n (amount l) t))
  | inr t ↦ ap (λ (b : Bool). is_inexact f r && b) t ∙ no_and (is_inexact f r)
]

pub two_coarse : (o : Bool) (a i b j p : ℕ) → p ≤ i → p ≤ j
    → combined o (a * 2 ^ (i - p)) (b * 2 ^ (j - p)) * 2 ^ p ≡ combined o (a * 2 ^ i) (b * 2 ^ j)
two_coarse o a i b j p h k =
    sym (combined_times o (a * 2 ^ (i - p)) (b * 2 ^ (j - p)) (2 ^ p))
    ∙ ap (λ (x : ℕ). combined o x (b * 2 ^ (j - p) * 2 ^ p)) (power_split a p i h)
    ∙ ap (λ (x : ℕ). combined o (a * 2 ^ i) x) (power_split b p j k)

-- ---- `inexact && ..`

pub when_inexact : (u t x y : Bool) → u ≡ t → x ≡ true → (x && t) ≡ y → u ≡ y
when_inexact u t x y a b c = a ∙ sym (ap (λ (z : Bool). z && t) b) ∙ c

pub when_exact : (u x t : Bool) → u ≡ x → x ≡ false → u ≡ t && x
when_exact u x t a b = a ∙ b ∙ sym (no_and t) ∙ ap (λ (z : Bool). t && z) (sym b)
