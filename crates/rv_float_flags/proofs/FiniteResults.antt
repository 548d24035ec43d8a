-- What a sum or a product of finite doubles raises beside NX, where it is finite and not tiny.
use Rattle.std.proofs.Common.{◌≡◌, ℕ, suc, ◌+◌, ◌-◌, ◌*◌, ◌/◌, ◌%◌, ◌^◌, ◌<◌, ◌≤◌, Bool, true, false, cond, not, ◌&&◌, ◌||◌, nat_lt, ◌⊎◌}
use Rattle.std.proofs.Common.{sym, subst, ap, ◌∙◌, refl, arith, inl, inr}
use Rattle.std.proofs.Math.Nat.{div-div-eq-div-mul, div-mul-le_self, eq_of_mul-eq-mul_right, eq-zero-or-pos, lt_of_mul-lt-mul_right}
use Rattle.std.proofs.Math.Nat.{mul-le-mul_right, mul-lt-mul_of_pos_right, mul-one, pow-succ', zero-mul}
use Rattle.std.proofs.Math.Pow.{pow_mono}
use Rattle.std.proofs.lemmas.Nat.{mul-le, mul-lt, pow-add, pow_pos}
use Rattle.std.proofs.lemmas.Bool.{cases_lt, lt-ltb, ne_eqb, true≢false}
use Rattle.std.specs.Float.{float_is_finite, float_is_infinite, is_sign_negative}
use Rattle.std.specs.Prelude.{Some}
use Rattle.rv_float_flags.specs.Exact.{combined, exact_product, exact_sum, is_inexact, is_tiny, rounded, Ratio}
use Rattle.rv_float_flags.specs.Flags.{accrued, invalid, overflow_if, rounding_flags}
use Rattle.rv_float_flags.specs.Operations.{add_flags, mul_flags, product_flags, sub_flags, sum_flags}
use Rattle.rv_float_flags.specs.Scaled.{amount, exponent, IsFraction, IsLimit, IsMagnitude}
use Rattle.rv_float_flags.specs.declared.flags.Flags.{Flags}
use Rattle.rv_float_flags.specs.declared.scaled.Scaled.{Scaled}
use Rattle.rv_float_flags.proofs.Magnitudes.{no_magnitude, normal, odd-finite, subnormal}
use Rattle.rv_float_flags.proofs.Fractions.{product_fraction, sum_fraction}
use Rattle.rv_float_flags.proofs.Numbers.{combined_sides, combined_times}
use Rattle.rv_float_flags.proofs.Operations.{none_signals, of_product_so, of_sum_so}
use Rattle.rv_float_flags.proofs.Roundings.{bound_at, coarse_none, either, exact_value, no_and, overflow, raised_beside, square, two_coarse}
use Rattle.rv_float_flags.proofs.Roundings.{underflow}
use Rattle.rv_float_flags.proofs.Results.{add_rounds, either_round, magnitude_of, mul_rounds, SameSize}
use Rattle.std.proofs.Common.{lt_of_le_of_lt}
use lib.Dec.{T, eqb}
use Prim.Native.Nat.{compare}
use lib.Ieee.Bits.{of_bits-to_bits}
use lib.Ieee.Digits.{size-le}
use lib.Ieee.Exact.{round_exact}
use lib.Ieee.Fits.{nearest-le, round-fits, round_is}
use lib.Ieee.{Float, Format, nan, inf, fin, add, binary64, emax, fits, is_nan, low, mul, nan_bits, nearest, neg, odd, of_bits, prec, round}
use lib.Ieee.{size, sub, to_bits, units, unlike}

-- ---- a double that is finite, by its pattern

-- its magnitude, at the place of its exponent
pub record Finite (a : ℕ) : Type 0 where
  pub scaled : Scaled
  pub magnitude : IsMagnitude binary64 (of_bits binary64 a) scaled
  pub place : scaled.place ≡ exponent a - 1
  pub rest : scaled.digits % 134217728 ≡ a % 134217728
  pub zero : a % 9223372036854775808 ≡ 0 → scaled.digits ≡ 0

pub finite : (a : ℕ) → a % 9223372036854775808 < 9218868437227405312 → Finite a
finite a h = elim (eq-zero-or-pos (exponent a)) [
  | inl z ↦ record {
    scaled = record { digits = a % 4503599627370496; place = 0 };
    magnitude = subnormal binary64 a 0 _ z refl refl refl (omega arith) (omega arith);
    place = omega (arith, z);
    rest = omega arith;
    zero = λ h. omega (arith, h);
  }
  | inr p ↦
      let x = exponent a - 1 in
      let e : exponent a ≡ suc x = omega (arith, p) in
      let x_small : x < 2046 = omega (arith, h) in
      record {
        scaled = record { digits = 4503599627370496 + a % 4503599627370496; place = x };
        magnitude = normal binary64 a x 0 _ e (λ ones. absurd (omega (arith, ones, x_small))) refl refl (omega arith) (omega arith)
            (omega (arith, x_small));
        place = refl;
        rest = omega arith;
        zero = λ h. absurd (omega (arith, h, p));
      }
]

-- less than 2 ^ 1022
pub record Moderate (a : ℕ) : Type 0 where
  pub finite : Finite a
  pub most : finite.scaled.place ≤ 2043

pub moderate : (a : ℕ) → a % 9223372036854775808 < 9209861237972664320 → Moderate a
moderate a l =
    let f = finite a (omega (arith, l)) in
    record { finite = f; most = omega (arith, l, f.place) }

-- the last 27 of the 53 digits of both are zeros
pub record AreShort (a b : ℕ) : Type 0 where
  pub first : a % 134217728 ≡ 0
  pub second : b % 134217728 ≡ 0

-- and they lie close together
pub record IsSumShort (a b : ℕ) : Type 0 where
  pub short : AreShort a b
  pub near : exponent a ≤ exponent b + 26
  pub far : exponent b ≤ exponent a + 26

-- ---- a rounding that is neither infinite nor tiny, beside flags that have NX

or_false : (b : Bool) → (b || false) ≡ b
or_false true = refl
or_false false = refl

pub nothing : (g : Flags) → accrued g (overflow_if false) ≡ g
nothing g = rw (or_false g.nv, or_false g.dz, or_false g.of, or_false g.uf, or_false g.nx) refl

pub beside : (g : Flags) (f : Format) (r : Ratio) (p : Scaled) → g.nx ≡ true → IsMagnitude f (rounded f r) p
    → is_tiny f r && is_inexact f r ≡ false → g ≡ accrued g (rounding_flags f r)
beside g f r p there finite tiny = sym (nothing g) ∙ raised_beside g false _ _ _ there (overflow f r (Some p) false refl finite) tiny

-- of terms that are multiples of the smallest value
pub coarse : (f : Format) (r : Ratio) (l : Scaled) (o : Bool) (a i b j : ℕ) → IsLimit f l → l.place + 2 ≤ i → l.place + 2 ≤ j
    → IsFraction r (combined o (a * 2 ^ i) (b * 2 ^ j)) 1
    → is_tiny f r && is_inexact f r ≡ false
coarse f r l o a i b j limit h k fraction =
    let n = combined o (a * 2 ^ i) (b * 2 ^ j) in
    let p = l.place + 2 in
    underflow f r l n 1 limit fraction
    ∙ ap (λ (x : ℕ). is_inexact f r && nat_lt n x) (mul-one (amount l))
    ∙ coarse_none f r l n (combined o (a * 2 ^ (i - p)) (b * 2 ^ (j - p))) limit fraction (two_coarse o a i b j p h k)

-- ---- a rounding that is exact

exact_beside : (g : Flags) (o t x : Bool) → false ≡ o → x ≡ false
    → accrued g (overflow_if false) ≡ accrued g (record { nv = false; dz = false; of = o; uf = t && x; nx = x })
exact_beside g o t x overflows exact = rw (sym overflows, exact, no_and t) refl

pub exact : (g : Flags) (f : Format) (r : Ratio) (p : Scaled) → IsMagnitude f (rounded f r) p → is_inexact f r ≡ false
    → g ≡ accrued g (rounding_flags f r)
exact g f r p finite same = sym (nothing g) ∙ exact_beside g _ (is_tiny f r) _ (overflow f r (Some p) false refl finite) same

-- where the exact result has 53 digits
exact_at : (r : Ratio) (w j n : ℕ) → IsFraction r n 1 → w * 2 ^ j * 2 ^ 1074 ≡ n → w < 2 ^ 53 → w * 2 ^ j < 2 ^ 2098
    → is_inexact binary64 r ≡ false
exact_at r w j n fraction e small fine =
    let a : r.numerator * (2 ^ 1074 * 2 ^ 1074) * 1 ≡ n * r.denominator =
    ap (λ (z : ℕ). r.numerator * z * 1) (sym square) ∙ fraction.value in
    let b : r.numerator * 2 ^ 1074 * 2 ^ 1074 ≡ w * 2 ^ j * r.denominator * 2 ^ 1074 =
    omega (arith, a, ap (λ (z : ℕ). z * r.denominator) e) in
    let c : r.numerator * 2 ^ 1074 ≡ w * 2 ^ j * r.denominator = eq_of_mul-eq-mul_right (2 ^ 1074) (pow_pos 1074) _ _ b in
    ap not (exact_value (rounded binary64 r) r.numerator r.denominator
    (round_exact binary64 false r.numerator r.denominator w j fraction.nonzero small fine c))

-- ---- a rounding that is finite

finite_units : (f : Format) (s : Bool) (q k : ℕ) → q * 2 ^ k < 2 ^ (low f + suc (emax f)) → float_is_finite (units f s q k) ≡ true
unfolding units
finite_units f s q k h =
    ap (λ (b : Bool). float_is_finite (cond b (odd (suc (prec f)) s q k (low f)) (inf s)))
    (lt-ltb (q * 2 ^ k) (2 ^ (low f + suc (emax f))) h)
    ∙ odd-finite (suc (prec f)) s q k (low f)

-- less than 2 ^ emax
pub finite_below : (f : Format) (r : Ratio) → 0 < r.denominator → r.numerator * 2 ^ low f < 2 ^ (low f + emax f) * r.denominator
    → float_is_finite (rounded f r) ≡ true
finite_below f r p h =
    let n = r.numerator * 2 ^ low f in
    let w = n / r.denominator in
    let l = low f + emax f in
    let k = size w - prec f in
    let u = r.denominator * 2 ^ k in
    let q = nearest (n / u) (compare (n % u * 2) u) in
    let a : w < 2 ^ l = lt_of_mul-lt-mul_right r.denominator (lt_of_le_of_lt (div-mul-le_self n r.denominator) h) in
    let b : size w ≤ l = size-le w l a in
    let below : k ≤ l = omega (arith, b) in
    let c : 2 ^ k ≤ 2 ^ l = pow_mono below in
    let d : q ≤ suc (n / u) = nearest-le (n / u) (compare (n % u * 2) u) in
    let e : n / u ≡ w / 2 ^ k = sym (div-div-eq-div-mul n r.denominator (2 ^ k)) in
    let g : w / 2 ^ k * 2 ^ k ≤ w = div-mul-le_self w (2 ^ k) in
    let i : q * 2 ^ k ≤ suc (w / 2 ^ k) * 2 ^ k = mul-le-mul_right (2 ^ k) (omega (arith, d, e)) in
    let above : low f + suc (emax f) ≡ suc l = omega arith in
    let top : 2 ^ (low f + suc (emax f)) ≡ 2 * 2 ^ l = ap (λ (x : ℕ). 2 ^ x) above ∙ pow-succ' 2 l in
    let j : q * 2 ^ k < 2 ^ (low f + suc (emax f)) = omega (arith, i, g, a, c, top) in
    subst (λ (x : Float). float_is_finite x ≡ true) (sym (round_is f false r.numerator r.denominator)) (finite_units f false q k j)

finite_fraction : (r : Ratio) (n : ℕ) → IsFraction r n 1 → n < 2 ^ 3171 → float_is_finite (rounded binary64 r) ≡ true
finite_fraction r n fraction h =
    let a : r.numerator * (2 ^ 1074 * 2 ^ 1074) * 1 ≡ n * r.denominator =
    ap (λ (z : ℕ). r.numerator * z * 1) (sym square) ∙ fraction.value in
    let b : n * r.denominator < 2 ^ 3171 * r.denominator = mul-lt-mul_of_pos_right h fraction.nonzero in
    let c : r.numerator * 2 ^ 1074 * 2 ^ 1074 < 2 ^ 2097 * r.denominator * 2 ^ 1074 = omega (arith, a, b) in
    finite_below binary64 r fraction.nonzero (lt_of_mul-lt-mul_right (2 ^ 1074) c)

not_finite : (a : ℕ) → 9218868437227405312 ≤ a % 9223372036854775808 → float_is_finite (of_bits binary64 a) ≡ false
not_finite a l = no_magnitude binary64 a 2046 (omega (arith, l)) refl

finite_pattern : (a : ℕ) → float_is_finite (of_bits binary64 a) ≡ true → Finite a
finite_pattern a h = elim (cases_lt (a % 9223372036854775808) 9218868437227405312) [
  | inl l ↦ finite a l
  | inr l ↦ absurd (true≢false (sym h ∙ not_finite a l))
]

pub finite_result : (z : ℕ) (v : Float) (r : Ratio) (u : Bool) → z ≡ to_bits binary64 v → v ≡ round binary64 u r.numerator r.denominator
    → float_is_finite (rounded binary64 r) ≡ true → Finite z
finite_result z v r u is rounds h =
    let same = either_round binary64 u false r.numerator r.denominator in
    let fit : T (fits binary64 v) =
    subst (λ (x : Float). T (fits binary64 x)) (sym rounds) (round-fits binary64 u r.numerator r.denominator) in
    finite_pattern z (ap (λ (x : ℕ). float_is_finite (of_bits binary64 x)) is ∙ ap float_is_finite (of_bits-to_bits binary64 v fit)
    ∙ ap float_is_finite rounds ∙ same.2 ∙ h)

-- of a double whose last 27 digits are zeros, the others
abbrev first_26 : ℕ → ℕ
first_26 d = d / 134217728

halves : (d r : ℕ) → d < 2 ^ 53 → d % 134217728 ≡ r → r ≡ 0 → (d ≡ first_26 d * 134217728) × (first_26 d < 2 ^ 26)
halves d r h e z = (omega (arith, e, z), omega (arith, h))

short_product : (r : Ratio) (d i e j : ℕ) → d < 2 ^ 53 → e < 2 ^ 53 → d % 134217728 ≡ 0 → e % 134217728 ≡ 0 → 1074 ≤ i + j → i + j ≤ 3064
    → IsFraction r (d * e * 2 ^ (i + j) + 0 * 2 ^ 2148) 1 → is_inexact binary64 r ≡ false
short_product r d i e j hd he zd ze low high fraction =
    let u = halves d 0 hd zd refl in
    let v = halves e 0 he ze refl in
    let w = first_26 d * first_26 e in
    let k = i + j - 1020 in
    let small : w < 2 ^ 26 * 2 ^ 26 = mul-lt (first_26 d) (first_26 e) (2 ^ 26) (2 ^ 26) u.1 v.1 in
    let places : k + 1074 ≡ 54 + (i + j) = omega (arith, low) in
    let powers : 2 ^ k * 2 ^ 1074 ≡ 2 ^ 54 * 2 ^ (i + j) = sym (pow-add 2 k 1074) ∙ ap (λ (z : ℕ). 2 ^ z) places ∙ pow-add 2 54 (i + j) in
    let digits : d * e ≡ w * 2 ^ 54 = ap (λ (z : ℕ). z * e) u.0 ∙ ap (λ (z : ℕ). first_26 d * 134217728 * z) v.0 ∙ omega arith in
    let value : w * 2 ^ k * 2 ^ 1074 ≡ d * e * 2 ^ (i + j) + 0 * 2 ^ 2148 =
    omega (arith, ap (λ (z : ℕ). w * z) powers, ap (λ (z : ℕ). z * 2 ^ (i + j)) digits) in
    let below : k ≤ 2044 = omega (arith, high) in
    let top : 2 ^ k ≤ 2 ^ 2044 = pow_mono below in
    let fine : w * 2 ^ k ≤ 2 ^ 52 * 2 ^ 2044 = mul-le w (2 ^ k) (2 ^ 52) (2 ^ 2044) (omega (arith, small)) top in
    exact_at r w k _ fraction value (omega (arith, small)) (omega (arith, fine))

pub combined_most : (o : Bool) (a b : ℕ) → combined o a b ≤ a + b
combined_most true a b = omega arith
combined_most false a b = omega arith

-- a term of a sum, from the lower place of the two on
short_term : (d i m : ℕ) → d < 2 ^ 26 → i - m ≤ 26 → d * 2 ^ (i - m) ≤ (2 ^ 26 - 1) * 2 ^ 26
short_term d i m h l = mul-le d (2 ^ (i - m)) (2 ^ 26 - 1) (2 ^ 26) (omega (arith, h)) (pow_mono l)

term : (d i : ℕ) → d < 2 ^ 53 → i ≤ 2044 → d * 2 ^ i ≤ (2 ^ 53 - 1) * 2 ^ 2044
term d i h l = mul-le d (2 ^ i) (2 ^ 53 - 1) (2 ^ 2044) (omega (arith, h)) (pow_mono l)

pub raised_by : (d i : ℕ) → d * 2 ^ i * 2 ^ 1074 ≡ d * 2 ^ (i + 1074)
raised_by d i = let p : 2 ^ (i + 1074) ≡ 2 ^ i * 2 ^ 1074 = pow-add 2 i 1074 in omega (arith, ap (λ (x : ℕ). d * x) p)

short_sum_from : (r : Ratio) (o : Bool) (d i e j m : ℕ) → d < 2 ^ 53 → e < 2 ^ 53 → d % 134217728 ≡ 0 → e % 134217728 ≡ 0 → m ≤ i → m ≤ j
    → i - m ≤ 26 → j - m ≤ 26
    → i ≤ 2044 → j ≤ 2044 → IsFraction r (combined o (d * 2 ^ (i + 1074)) (e * 2 ^ (j + 1074))) 1 → is_inexact binary64 r ≡ false
short_sum_from r o d i e j m hd he zd ze mi mj si sj hi hj fraction =
    let u = halves d 0 hd zd refl in
    let v = halves e 0 he ze refl in
    let w = combined o (first_26 d * 2 ^ (i - m)) (first_26 e * 2 ^ (j - m)) in
    let small = combined_most o (first_26 d * 2 ^ (i - m)) (first_26 e * 2 ^ (j - m)) in
    let su = short_term (first_26 d) i m u.1 si in
    let sv = short_term (first_26 e) j m v.1 sj in
    let a : w * 2 ^ m ≡ combined o (first_26 d * 2 ^ i) (first_26 e * 2 ^ j) = two_coarse o (first_26 d) i (first_26 e) j m mi mj in
    let b : combined o (first_26 d * 2 ^ i * 134217728) (first_26 e * 2 ^ j * 134217728)
    ≡ combined o (first_26 d * 2 ^ i) (first_26 e * 2 ^ j) * 134217728 =
    combined_times o (first_26 d * 2 ^ i) (first_26 e * 2 ^ j) 134217728
    in
    let c : combined o (first_26 d * 2 ^ i * 134217728) (first_26 e * 2 ^ j * 134217728) ≡ combined o (d * 2 ^ i) (e * 2 ^ j) =
    ap (λ (x : ℕ). combined o x (first_26 e * 2 ^ j * 134217728))
    (let k : first_26 d * 2 ^ i * 134217728 ≡ d * 2 ^ i = omega (arith, ap (λ (z : ℕ). z * 2 ^ i) u.0) in k)
    ∙ ap (λ (x : ℕ). combined o (d * 2 ^ i) x)
    (let k : first_26 e * 2 ^ j * 134217728 ≡ e * 2 ^ j = omega (arith, ap (λ (z : ℕ). z * 2 ^ j) v.0) in k)
    in
    let power : 2 ^ (m + 27) ≡ 2 ^ m * 134217728 = pow-add 2 m 27 in
    let value : w * 2 ^ (m + 27) ≡ combined o (d * 2 ^ i) (e * 2 ^ j) =
    ap (λ (x : ℕ). w * x) power ∙ omega (arith, ap (λ (x : ℕ). x * 134217728) a, b, c) in
    let most = combined_most o (d * 2 ^ i) (e * 2 ^ j) in
    let md = term d i hd hi in
    let me = term e j he hj in
    let raised : combined o (d * 2 ^ i) (e * 2 ^ j) * 2 ^ 1074 ≡ combined o (d * 2 ^ (i + 1074)) (e * 2 ^ (j + 1074)) =
    sym (combined_times o (d * 2 ^ i) (e * 2 ^ j) (2 ^ 1074))
    ∙ ap (λ (x : ℕ). combined o x (e * 2 ^ j * 2 ^ 1074)) (raised_by d i)
    ∙ ap (λ (x : ℕ). combined o (d * 2 ^ (i + 1074)) x) (raised_by e j)
    in
    exact_at r w (m + 27) _ fraction (ap (λ (x : ℕ). x * 2 ^ 1074) value ∙ raised) (omega (arith, small, su, sv))
    (omega (arith, value, most, md, me))

short_sum : (r : Ratio) (o : Bool) (d i e j : ℕ) → d < 2 ^ 53 → e < 2 ^ 53 → d % 134217728 ≡ 0 → e % 134217728 ≡ 0 → i ≤ j + 26 → j ≤ i + 26
    → i ≤ 2044 → j ≤ 2044 → IsFraction r (combined o (d * 2 ^ (i + 1074)) (e * 2 ^ (j + 1074))) 1 → is_inexact binary64 r ≡ false
short_sum r o d i e j hd he zd ze ij ji hi hj fraction = elim (cases_lt i j) [
  | inl l ↦ short_sum_from r o d i e j i hd he zd ze (omega arith) (omega (arith, l)) (omega arith) (omega (arith, ji)) hi hj fraction
  | inr l ↦ short_sum_from r o d i e j j hd he zd ze (omega (arith, l)) (omega arith) (omega (arith, ij)) (omega arith) hi hj fraction
]

abbrev pub limit : Scaled
limit = record { digits = 18014398509481983; place = 1072 }

term_below : (d i l : ℕ) → d < 2 ^ 53 → i ≤ l → d * 2 ^ i ≤ (2 ^ 53 - 1) * 2 ^ l
term_below d i l h k = mul-le d (2 ^ i) (2 ^ 53 - 1) (2 ^ l) (omega (arith, h)) (pow_mono k)

-- sums of such sizes are exact, whatever the signs
abbrev pub IsExact : {a b : ℕ} → Moderate a → Moderate b → Type 0
IsExact p q = (r : Ratio) (o : Bool)
    → IsFraction r (combined o (p.finite.scaled.digits * 2 ^ (p.finite.scaled.place + 1074))
    (q.finite.scaled.digits * 2 ^ (q.finite.scaled.place + 1074))) 1
    → is_inexact binary64 r ≡ false

pub by_short : {a b : ℕ} (p : Moderate a) (q : Moderate b) → IsSumShort a b → IsExact p q
by_short p q h r o fraction =
    let f = p.finite in
    let g = q.finite in
    short_sum r o f.scaled.digits f.scaled.place g.scaled.digits g.scaled.place f.magnitude.narrow g.magnitude.narrow
    (f.rest ∙ h.short.first) (g.rest ∙ h.short.second)
    (omega (arith, h.near, f.place, g.place)) (omega (arith, h.far, f.place, g.place)) (omega (arith, p.most))
    (omega (arith, q.most)) fraction

-- one of two is zero
pub zero_of : (a b : ℕ) → a * b ≡ 0 → (a ≡ 0) ⊎ (b ≡ 0)
zero_of a b h = elim (eq-zero-or-pos a) [
  | inl z ↦ inl z
  | inr p ↦ inr (eq_of_mul-eq-mul_right a p b 0 (omega (arith, h)))
]

one_term : (r : Ratio) (o : Bool) (d i : ℕ) → d < 2 ^ 53 → i ≤ 2044 → IsFraction r (d * 2 ^ (i + 1074)) 1 → is_inexact binary64 r ≡ false
one_term r o d i h l fraction =
    let m = term d i h l in
    exact_at r d i _ fraction (raised_by d i) h (omega (arith, m))

pub by_zero : {a b : ℕ} (p : Moderate a) (q : Moderate b) → a % 9223372036854775808 * (b % 9223372036854775808) ≡ 0 → IsExact p q
by_zero {a = a} {b = b} p q h r o fraction =
    let d = p.finite.scaled.digits in
    let i = p.finite.scaled.place in
    let e = q.finite.scaled.digits in
    let j = q.finite.scaled.place in
    elim (zero_of (a % 9223372036854775808) (b % 9223372036854775808) h) [
      | inl z ↦
          let none : d * 2 ^ (i + 1074) ≡ 0 = ap (λ (x : ℕ). x * 2 ^ (i + 1074)) (p.finite.zero z) ∙ zero-mul (2 ^ (i + 1074)) in
          let only : combined o (d * 2 ^ (i + 1074)) (e * 2 ^ (j + 1074)) ≡ e * 2 ^ (j + 1074) =
          ap (λ (x : ℕ). combined o x (e * 2 ^ (j + 1074))) none ∙ combined_zero o (e * 2 ^ (j + 1074)) in
          one_term r o e j q.finite.magnitude.narrow (omega (arith, q.most)) (subst (λ (n : ℕ). IsFraction r n 1) only fraction)
      | inr z ↦
          let none : e * 2 ^ (j + 1074) ≡ 0 = ap (λ (x : ℕ). x * 2 ^ (j + 1074)) (q.finite.zero z) ∙ zero-mul (2 ^ (j + 1074)) in
          let only : combined o (d * 2 ^ (i + 1074)) (e * 2 ^ (j + 1074)) ≡ d * 2 ^ (i + 1074) =
          ap (λ (x : ℕ). combined o (d * 2 ^ (i + 1074)) x) none ∙ combined_sides o (d * 2 ^ (i + 1074)) 0
          ∙ combined_zero o (d * 2 ^ (i + 1074))
          in
          one_term r o d i p.finite.magnitude.narrow (omega (arith, p.most)) (subst (λ (n : ℕ). IsFraction r n 1) only fraction)
    ]
  where
    combined_zero : (o : Bool) (n : ℕ) → combined o 0 n ≡ n
    combined_zero true n = omega arith
    combined_zero false n = omega arith

sum_of : (g : Flags) (x y : Float) (a b z : ℕ) (p : Moderate a) (q : Moderate b) → (g.nx ≡ true) ⊎ IsExact p q
    → IsMagnitude binary64 x p.finite.scaled → IsMagnitude binary64 y q.finite.scaled → z ≡ to_bits binary64 (add binary64 x y)
    → g ≡ accrued g (sum_flags binary64 x y)
sum_of g x y a b z p q why hx hy is =
    let o = unlike (is_sign_negative x) (is_sign_negative y) in
    let d = p.finite.scaled.digits in
    let i = p.finite.scaled.place in
    let e = q.finite.scaled.digits in
    let j = q.finite.scaled.place in
    let rounds = add_rounds binary64 x y hx.finite hy.finite in
    let fraction : IsFraction (exact_sum x y) (combined o (d * 2 ^ (i + 1074)) (e * 2 ^ (j + 1074))) 1 =
    subst (λ (n : ℕ). IsFraction (exact_sum x y) n 1)
    (ap (λ (n : ℕ). combined o n (e * 2 ^ j * 2 ^ 1074)) (raised_by d i)
    ∙ ap (λ (n : ℕ). combined o (d * 2 ^ (i + 1074)) n) (raised_by e j))
    (sum_fraction binary64 o x y p.finite.scaled q.finite.scaled hx hy)
    in
    let most = combined_most o (d * 2 ^ (i + 1074)) (e * 2 ^ (j + 1074)) in
    let di : i + 1074 ≤ 3117 = omega (arith, p.most) in
    let ej : j + 1074 ≤ 3117 = omega (arith, q.most) in
    let md = term_below d (i + 1074) 3117 hx.narrow di in
    let me = term_below e (j + 1074) 3117 hy.narrow ej in
    let f : Finite z =
    finite_result z (add binary64 x y) (exact_sum x y) rounds.0 is rounds.1
    (finite_fraction (exact_sum x y) _ fraction (omega (arith, most, md, me))) in
    of_sum_so (accrued g) binary64 x y p.finite.scaled q.finite.scaled (record { digits = d; place = i + 1074 })
    (record { digits = e; place = j + 1074 }) o z (Some f.scaled) g
    hx hy refl refl refl is f.magnitude
    (λ r fraction result. elim why [
      | inl there ↦
          beside g binary64 r f.scaled there result
          (coarse binary64 r limit o d (i + 1074) e (j + 1074) (record { digits = refl; place = refl }) (omega arith)
          (omega arith) fraction)
      | inr h ↦
          exact g binary64 r f.scaled result (h r o fraction)
    ])

pub sum : (g : Flags) (a b z : ℕ) (p : Moderate a) (q : Moderate b) → (g.nx ≡ true) ⊎ IsExact p q
    → z ≡ to_bits binary64 (add binary64 (of_bits binary64 a) (of_bits binary64 b)) → accrued g (add_flags binary64 a b) ≡ g
sum g a b z x y why is =
    sym (sum_of g (of_bits binary64 a) (of_bits binary64 b) a b z x y why x.finite.magnitude y.finite.magnitude is
    ∙ ap (accrued g)
    (none_signals binary64 a b (sum_flags binary64 (of_bits binary64 a) (of_bits binary64 b)) invalid x.finite.magnitude.finite
    y.finite.magnitude.finite))

pub negated : (x : Float) → SameSize x (neg x)
unfolding neg float_is_finite
negated nan = (refl, refl, refl)
negated (inf s) = (refl, refl, refl)
negated (fin s m e) = (refl, refl, refl)

pub sub_is : (f : Format) (x y : Float) → sub f x y ≡ add f x (neg y)
unfolding sub
sub_is f x y = refl

pub difference : (g : Flags) (a b z : ℕ) (p : Moderate a) (q : Moderate b) → (g.nx ≡ true) ⊎ IsExact p q
    → z ≡ to_bits binary64 (sub binary64 (of_bits binary64 a) (of_bits binary64 b)) → accrued g (sub_flags binary64 a b) ≡ g
difference g a b z x y why is =
    let y_negated =
    magnitude_of binary64 (of_bits binary64 b) (neg (of_bits binary64 b)) (Some y.finite.scaled)
    (negated (of_bits binary64 b)) y.finite.magnitude in
    sym (sum_of g (of_bits binary64 a) (neg (of_bits binary64 b)) a b z x y why x.finite.magnitude y_negated
    (is ∙ ap (to_bits binary64) (sub_is binary64 (of_bits binary64 a) (of_bits binary64 b)))
    ∙ ap (accrued g)
    (none_signals binary64 a b (sum_flags binary64 (of_bits binary64 a) (neg (of_bits binary64 b))) invalid x.finite.magnitude.finite
    y.finite.magnitude.finite))

pub product : (g : Flags) (a b z : ℕ) → Finite a → Finite b → 1076 ≤ exponent a + exponent b → exponent a + exponent b ≤ 3066
    → (g.nx ≡ true) ⊎ AreShort a b → z ≡ to_bits binary64 (mul binary64 (of_bits binary64 a) (of_bits binary64 b))
    → accrued g (mul_flags binary64 a b) ≡ g
product g a b z x y large little why is =
    let d = x.scaled.digits in
    let i = x.scaled.place in
    let e = y.scaled.digits in
    let j = y.scaled.place in
    let rounds = mul_rounds binary64 (of_bits binary64 a) (of_bits binary64 b) x.magnitude.finite y.magnitude.finite in
    let most : d * e ≤ (2 ^ 53 - 1) * (2 ^ 53 - 1) =
    mul-le d e (2 ^ 53 - 1) (2 ^ 53 - 1) (omega (arith, x.magnitude.narrow)) (omega (arith, y.magnitude.narrow)) in
    let places : i + j ≤ 3064 = omega (arith, little, x.place, y.place) in
    let top : d * e * 2 ^ (i + j) ≤ (2 ^ 53 - 1) * (2 ^ 53 - 1) * 2 ^ 3064 =
    mul-le (d * e) (2 ^ (i + j)) ((2 ^ 53 - 1) * (2 ^ 53 - 1)) (2 ^ 3064) most (pow_mono places) in
    let value : d * 2 ^ i * (e * 2 ^ j) ≡ d * e * 2 ^ (i + j) = bound_at d i e j in
    let f : Finite z =
    finite_result z (mul binary64 (of_bits binary64 a) (of_bits binary64 b)) (exact_product (of_bits binary64 a) (of_bits binary64 b))
    rounds.0 is rounds.1
    (finite_fraction (exact_product (of_bits binary64 a) (of_bits binary64 b)) _
    (product_fraction binary64 (of_bits binary64 a) (of_bits binary64 b) x.scaled y.scaled (d * e * 2 ^ (i + j)) x.magnitude y.magnitude
    (sym value)) (omega (arith, top)))
    in
    sym (of_product_so (accrued g) binary64 (of_bits binary64 a) (of_bits binary64 b) x.scaled y.scaled
    (record { digits = d * e; place = i + j }) z (Some f.scaled) g
    x.magnitude y.magnitude refl is f.magnitude
    (λ r fraction result. elim why [
      | inl there ↦
          beside g binary64 r f.scaled there result
          (coarse binary64 r limit false (d * e) (i + j) 0 2148 (record { digits = refl; place = refl })
          (omega (arith, large, x.place, y.place)) (omega arith) fraction)
      | inr h ↦
          exact g binary64 r f.scaled result
          (short_product r d i e j x.magnitude.narrow y.magnitude.narrow (x.rest ∙ h.first) (y.rest ∙ h.second)
          (omega (arith, large, x.place, y.place))
          (omega (arith, little, x.place, y.place)) fraction)
    ])
    ∙ ap (accrued g)
    (none_signals binary64 a b (product_flags binary64 (of_bits binary64 a) (of_bits binary64 b)) invalid x.magnitude.finite
    y.magnitude.finite))

pub product_of_zero : (g : Flags) (a b z : ℕ) → Finite a → Finite b → a % 9223372036854775808 * (b % 9223372036854775808) ≡ 0
    → z ≡ to_bits binary64 (mul binary64 (of_bits binary64 a) (of_bits binary64 b)) → accrued g (mul_flags binary64 a b) ≡ g
product_of_zero g a b z x y h is =
    let d = x.scaled.digits in
    let i = x.scaled.place in
    let e = y.scaled.digits in
    let j = y.scaled.place in
    let v = exact_product (of_bits binary64 a) (of_bits binary64 b) in
    let rounds = mul_rounds binary64 (of_bits binary64 a) (of_bits binary64 b) x.magnitude.finite y.magnitude.finite in
    let none : d * e ≡ 0 = elim (zero_of (a % 9223372036854775808) (b % 9223372036854775808) h) [
      | inl at ↦ ap (λ (n : ℕ). n * e) (x.zero at) ∙ zero-mul e
      | inr at ↦ ap (λ (n : ℕ). d * n) (y.zero at) ∙ omega arith
    ] in
    let value : d * 2 ^ i * (e * 2 ^ j) ≡ 0 = bound_at d i e j ∙ ap (λ (n : ℕ). n * 2 ^ (i + j)) none ∙ zero-mul (2 ^ (i + j)) in
    let f : Finite z =
    finite_result z (mul binary64 (of_bits binary64 a) (of_bits binary64 b)) v rounds.0 is rounds.1
    (finite_fraction v 0
    (product_fraction binary64 (of_bits binary64 a) (of_bits binary64 b) x.scaled y.scaled 0 x.magnitude y.magnitude (sym value))
    (pow_pos 3171))
    in
    sym (of_product_so (accrued g) binary64 (of_bits binary64 a) (of_bits binary64 b) x.scaled y.scaled
    (record { digits = d * e; place = i + j }) z (Some f.scaled) g
    x.magnitude y.magnitude refl is f.magnitude
    (λ r fraction result.
    let nothing_there : d * e * 2 ^ (i + j) + 0 * 2 ^ 2148 ≡ 0 = omega (arith, ap (λ (n : ℕ). n * 2 ^ (i + j)) none) in
    exact g binary64 r f.scaled result
    (exact_at r 0 0 0 (subst (λ (n : ℕ). IsFraction r n 1) nothing_there fraction) (omega arith) (pow_pos 53)
    (let q = pow_pos 2098 in omega (arith, q))))
    ∙ ap (accrued g)
    (none_signals binary64 a b (product_flags binary64 (of_bits binary64 a) (of_bits binary64 b)) invalid x.magnitude.finite
    y.magnitude.finite))

-- ---- no NaN

pub pattern_no_nan : (a : ℕ) → a % 9223372036854775808 < 9218868437227405312 → T (not (nan_bits binary64 a))
unfolding nan_bits
pattern_no_nan a h =
    let other : eqb (a % 9223372036854775808 / 4503599627370496) 2047 ≡ false =
    ne_eqb (a % 9223372036854775808 / 4503599627370496) 2047 (λ e. absurd (omega (arith, e, h))) in
    subst (λ (b : Bool). T (not (b && not (eqb (a % 4503599627370496) 0)))) (sym other) tt

finite_no_nan : (x : Float) → float_is_infinite x ≡ not (float_is_finite x) → T (not (is_nan x))
unfolding is_nan float_is_finite float_is_infinite
finite_no_nan nan h = absurd (true≢false (sym h))
finite_no_nan (inf s) h = tt
finite_no_nan (fin s m e) h = tt

pub rounded_no_nan : (f : Format) (x : Float) (r : Ratio) → (u : Bool) × (x ≡ round f u r.numerator r.denominator) → T (not (is_nan x))
rounded_no_nan f x r is = subst (λ (y : Float). T (not (is_nan y))) (sym is.1) (finite_no_nan _ (either f is.0 r.numerator r.denominator))

pub sum_no_nan : (f : Format) (x y : Float) → float_is_finite x ≡ true → float_is_finite y ≡ true → T (not (is_nan (add f x y)))
sum_no_nan f x y h g = rounded_no_nan f (add f x y) (exact_sum x y) (add_rounds f x y h g)

pub product_no_nan : (f : Format) (x y : Float) → float_is_finite x ≡ true → float_is_finite y ≡ true → T (not (is_nan (mul f x y)))
product_no_nan f x y h g = rounded_no_nan f (mul f x y) (exact_product x y) (mul_rounds f x y h g)

negated_finite : (x : Float) → float_is_finite x ≡ true → float_is_finite (neg x) ≡ true
unfolding neg float_is_finite
negated_finite nan h = h
negated_finite (inf s) h = h
negated_finite (fin s m e) h = refl

pub difference_no_nan : (f : Format) (x y : Float) → float_is_finite x ≡ true → float_is_finite y ≡ true → T (not (is_nan (sub f x y)))
difference_no_nan f x y h g =
    subst (λ (z : Float). T (not (is_nan z))) (sym (sub_is f x y)) (sum_no_nan f x (neg y) h (negated_finite y g))
