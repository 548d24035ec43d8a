-- What a sum, a product or a quotient of finite singles raises beside NX, where it is finite and not tiny.
use Rattle.std.proofs.Common.{◌≡◌, ℕ, suc, ◌+◌, ◌-◌, ◌*◌, ◌%◌, ◌^◌, ◌<◌, ◌≤◌, Bool, true, false, not, ◌&&◌, ◌||◌, mul-pos, sym, subst, ap}
use Rattle.std.proofs.Common.{◌∙◌, refl, arith, inl, inr}
use Rattle.std.proofs.Math.Nat.{eq-zero-or-pos, lt_of_mul-lt-mul_right, mul-lt-mul_of_pos_right, zero-mul}
use Rattle.std.proofs.Math.Pow.{pow_mono}
use Rattle.std.proofs.lemmas.Nat.{mul-le, pow-add, pow_pos}
use Rattle.std.proofs.lemmas.Bool.{and_right, cases_lt, le-ltb, true≢false}
use Rattle.std.specs.Float.{float_is_finite, float_is_infinite, is_sign_negative}
use Rattle.std.specs.Prelude.{Some}
use Rattle.rv_float_flags.specs.Exact.{combined, exact_product, exact_quotient, exact_sum, is_inexact, rounded, Ratio}
use Rattle.rv_float_flags.specs.Flags.{accrued, invalid}
use Rattle.rv_float_flags.specs.Operations.{add_flags, div_flags, is_division_by_zero, is_invalid_quotient, is_zero, mul_flags}
use Rattle.rv_float_flags.specs.Operations.{product_flags, quotient_flags, sub_flags, sum_flags}
use Rattle.rv_float_flags.specs.Scaled.{amount, single_exponent, IsFraction, IsMagnitude}
use Rattle.rv_float_flags.specs.declared.flags.Flags.{Flags}
use Rattle.rv_float_flags.specs.declared.scaled.Scaled.{Scaled}
use Rattle.rv_float_flags.proofs.FiniteResults.{beside, coarse, combined_most, exact, finite_below, negated, raised_by, rounded_no_nan}
use Rattle.rv_float_flags.proofs.FiniteResults.{sub_is, zero_of}
use Rattle.rv_float_flags.proofs.Fractions.{product_fraction, quotient_fraction, sum_fraction}
use Rattle.rv_float_flags.proofs.Magnitudes.{no_magnitude, normal, subnormal}
use Rattle.rv_float_flags.proofs.Operations.{none_signals, of_product_so, of_quotient_so, of_sum_so}
use Rattle.rv_float_flags.proofs.Quotients.{finite_not_infinite, no_zero}
use Rattle.rv_float_flags.proofs.Roundings.{bound_at, no_and, underflow, zero_exact}
use Rattle.rv_float_flags.proofs.Results.{add_rounds, div_rounds, either_round, magnitude_of, mul_rounds, not_zero}
use lib.Dec.{T}
use lib.Ieee.Bits.{of_bits-to_bits}
use lib.Ieee.Fits.{round-fits}
use lib.Ieee.Positive.{den, den_pos, num}
use lib.Ieee.{Float, add, binary32, div, fits, is_nan, mul, neg, of_bits, round, sub, to_bits, unlike}

-- ---- a single that is finite, by its pattern

-- its magnitude, at the place of its exponent
pub record Finite (a : ℕ) : Type 0 where
  pub scaled : Scaled
  pub magnitude : IsMagnitude binary32 (of_bits binary32 a) scaled
  pub most : (k : ℕ) → 1 ≤ k → single_exponent a ≤ k → scaled.place ≤ k + 924
  pub least : 1 ≤ single_exponent a → (2 ^ 23 ≤ scaled.digits) × (single_exponent a + 924 ≤ scaled.place)
  pub zero : a % 2147483648 ≡ 0 → scaled.digits ≡ 0

pub finite : (a : ℕ) → a % 2147483648 < 2139095040 → Finite a
finite a h = elim (eq-zero-or-pos (single_exponent a)) [
  | inl z ↦ record {
    scaled = record { digits = a % 8388608; place = 925 };
    magnitude = subnormal binary32 a 925 _ z refl refl refl (omega arith) (omega arith);
    most = λ k p l. omega (arith, p);
    least = λ p. absurd (omega (arith, p, z));
    zero = λ h. omega (arith, h);
  }
  | inr p ↦
      let x = single_exponent a - 1 in
      let e : single_exponent a ≡ suc x = omega (arith, p) in
      let x_small : x < 254 = omega (arith, h) in
      record {
        scaled = record { digits = 8388608 + a % 8388608; place = x + 925 };
        magnitude = normal binary32 a x 925 _ e (λ ones. absurd (omega (arith, ones, x_small))) refl refl refl (omega arith)
            (omega (arith, x_small));
        most = λ k q l. omega (arith, e, l);
        least = λ q. (omega arith, omega (arith, e));
        zero = λ h. absurd (omega (arith, h, p));
      }
]

not_finite : (a : ℕ) → 2139095040 ≤ a % 2147483648 → float_is_finite (of_bits binary32 a) ≡ false
not_finite a l = no_magnitude binary32 a 254 (omega (arith, l)) refl

finite_pattern : (a : ℕ) → float_is_finite (of_bits binary32 a) ≡ true → Finite a
finite_pattern a h = elim (cases_lt (a % 2147483648) 2139095040) [
  | inl l ↦ finite a l
  | inr l ↦ absurd (true≢false (sym h ∙ not_finite a l))
]

finite_result : (z : ℕ) (v : Float) (r : Ratio) (u : Bool) → z ≡ to_bits binary32 v → v ≡ round binary32 u r.numerator r.denominator
    → float_is_finite (rounded binary32 r) ≡ true → Finite z
finite_result z v r u is rounds h =
    let same = either_round binary32 u false r.numerator r.denominator in
    let fit : T (fits binary32 v) =
    subst (λ (x : Float). T (fits binary32 x)) (sym rounds) (round-fits binary32 u r.numerator r.denominator) in
    finite_pattern z (ap (λ (x : ℕ). float_is_finite (of_bits binary32 x)) is ∙ ap float_is_finite (of_bits-to_bits binary32 v fit)
    ∙ ap float_is_finite rounds ∙ same.2 ∙ h)

-- less than 2 ^ 127
finite_fraction : (r : Ratio) (n m : ℕ) → IsFraction r n m → n < 2 ^ 2275 * m → float_is_finite (rounded binary32 r) ≡ true
finite_fraction r n m fraction h =
    let split : 2 ^ 2148 ≡ 2 ^ 149 * 2 ^ 1999 = pow-add 2 149 1999 in
    let a : r.numerator * (2 ^ 149 * 2 ^ 1999) * m ≡ n * r.denominator = ap (λ (z : ℕ). r.numerator * z * m) (sym split) ∙ fraction.value in
    let b : n * r.denominator < 2 ^ 2275 * m * r.denominator = mul-lt-mul_of_pos_right h fraction.nonzero in
    let c : r.numerator * 2 ^ 149 * (2 ^ 1999 * m) < 2 ^ 276 * r.denominator * (2 ^ 1999 * m) = omega (arith, a, b) in
    finite_below binary32 r fraction.nonzero (lt_of_mul-lt-mul_right (2 ^ 1999 * m) c)

abbrev limit : Scaled
limit = record { digits = 33554431; place = 1997 }

-- ---- sums

-- less than 2 ^ 126
pub record Moderate (a : ℕ) : Type 0 where
  pub finite : Finite a
  pub most : finite.scaled.place ≤ 1176

pub moderate : (a : ℕ) → single_exponent a < 253 → Moderate a
moderate a l =
    let f = finite a (omega (arith, l)) in
    record { finite = f; most = f.most 252 (omega arith) (omega (arith, l)) }

term_below : (d i l : ℕ) → d < 2 ^ 24 → i ≤ l → d * 2 ^ i ≤ (2 ^ 24 - 1) * 2 ^ l
term_below d i l h k = mul-le d (2 ^ i) (2 ^ 24 - 1) (2 ^ l) (omega (arith, h)) (pow_mono k)

sum_of : (g : Flags) (x y : Float) (p q : Scaled) (z : ℕ) → g.nx ≡ true → IsMagnitude binary32 x p → IsMagnitude binary32 y q
    → p.place ≤ 1176 → q.place ≤ 1176
    → z ≡ to_bits binary32 (add binary32 x y) → g ≡ accrued g (sum_flags binary32 x y)
sum_of g x y p q z there hx hy px py is =
    let o = unlike (is_sign_negative x) (is_sign_negative y) in
    let d = p.digits in
    let i = p.place in
    let e = q.digits in
    let j = q.place in
    let rounds = add_rounds binary32 x y hx.finite hy.finite in
    let fraction : IsFraction (exact_sum x y) (combined o (d * 2 ^ (i + 1074)) (e * 2 ^ (j + 1074))) 1 =
    subst (λ (n : ℕ). IsFraction (exact_sum x y) n 1)
    (ap (λ (n : ℕ). combined o n (e * 2 ^ j * 2 ^ 1074)) (raised_by d i)
    ∙ ap (λ (n : ℕ). combined o (d * 2 ^ (i + 1074)) n) (raised_by e j))
    (sum_fraction binary32 o x y p q hx hy)
    in
    let most = combined_most o (d * 2 ^ (i + 1074)) (e * 2 ^ (j + 1074)) in
    let di : i + 1074 ≤ 2250 = omega (arith, px) in
    let ej : j + 1074 ≤ 2250 = omega (arith, py) in
    let md = term_below d (i + 1074) 2250 hx.narrow di in
    let me = term_below e (j + 1074) 2250 hy.narrow ej in
    let f : Finite z =
    finite_result z (add binary32 x y) (exact_sum x y) rounds.0 is rounds.1
    (finite_fraction (exact_sum x y) _ 1 fraction (omega (arith, most, md, me))) in
    of_sum_so (accrued g) binary32 x y p q (record { digits = d; place = i + 1074 }) (record { digits = e; place = j + 1074 }) o z
    (Some f.scaled) g
    hx hy refl refl refl is f.magnitude
    (λ r fraction result.
    beside g binary32 r f.scaled there result
    (coarse binary32 r limit o d (i + 1074) e (j + 1074) (record { digits = refl; place = refl }) (omega (arith, hx.coarse))
    (omega (arith, hy.coarse)) fraction))

pub sum : (g : Flags) (a b z : ℕ) (p : Moderate a) (q : Moderate b) → g.nx ≡ true
    → z ≡ to_bits binary32 (add binary32 (of_bits binary32 a) (of_bits binary32 b)) → accrued g (add_flags binary32 a b) ≡ g
sum g a b z p q there is =
    let x = p.finite.magnitude in
    let y = q.finite.magnitude in
    sym (sum_of g (of_bits binary32 a) (of_bits binary32 b) p.finite.scaled q.finite.scaled z there x y p.most q.most is
    ∙ ap (accrued g) (none_signals binary32 a b (sum_flags binary32 (of_bits binary32 a) (of_bits binary32 b)) invalid x.finite y.finite))

pub difference : (g : Flags) (a b z : ℕ) (p : Moderate a) (q : Moderate b) → g.nx ≡ true
    → z ≡ to_bits binary32 (sub binary32 (of_bits binary32 a) (of_bits binary32 b)) → accrued g (sub_flags binary32 a b) ≡ g
difference g a b z p q there is =
    let x = p.finite.magnitude in
    let y = q.finite.magnitude in
    let y_negated =
    magnitude_of binary32 (of_bits binary32 b) (neg (of_bits binary32 b)) (Some q.finite.scaled) (negated (of_bits binary32 b)) y in
    sym (sum_of g (of_bits binary32 a) (neg (of_bits binary32 b)) p.finite.scaled q.finite.scaled z there x y_negated p.most q.most
    (is ∙ ap (to_bits binary32) (sub_is binary32 (of_bits binary32 a) (of_bits binary32 b)))
    ∙ ap (accrued g)
    (none_signals binary32 a b (sum_flags binary32 (of_bits binary32 a) (neg (of_bits binary32 b))) invalid x.finite y.finite))

-- ---- products and quotients

-- from 2 ^ -63 to 2 ^ 63, so that neither the product nor the quotient of two is tiny or infinite
pub record Middling (a : ℕ) : Type 0 where
  pub finite : Finite a
  pub least : 988 ≤ finite.scaled.place
  pub most : finite.scaled.place ≤ 1113
  pub digits : 2 ^ 23 ≤ finite.scaled.digits

pub middling : (a : ℕ) → 64 ≤ single_exponent a → single_exponent a < 190 → Middling a
middling a h l =
    let f = finite a (omega (arith, l)) in
    let normal = f.least (omega (arith, h)) in
    record { finite = f; least = omega (arith, h, normal.1); most = f.most 189 (omega arith) (omega (arith, l)); digits = normal.0 }

pub product : (g : Flags) (a b z : ℕ) → Middling a → Middling b → g.nx ≡ true
    → z ≡ to_bits binary32 (mul binary32 (of_bits binary32 a) (of_bits binary32 b)) → accrued g (mul_flags binary32 a b) ≡ g
product g a b z p q there is =
    let v = of_bits binary32 a in
    let w = of_bits binary32 b in
    let x = p.finite in
    let y = q.finite in
    let d = x.scaled.digits in
    let i = x.scaled.place in
    let e = y.scaled.digits in
    let j = y.scaled.place in
    let rounds = mul_rounds binary32 v w x.magnitude.finite y.magnitude.finite in
    let most : d * e ≤ (2 ^ 24 - 1) * (2 ^ 24 - 1) =
    mul-le d e (2 ^ 24 - 1) (2 ^ 24 - 1) (omega (arith, x.magnitude.narrow)) (omega (arith, y.magnitude.narrow)) in
    let least : 2 ^ 23 * 2 ^ 23 ≤ d * e = mul-le (2 ^ 23) (2 ^ 23) d e p.digits q.digits in
    let above : 2 ^ 1976 ≤ 2 ^ (i + j) = pow_mono {i = 1976} (omega (arith, p.least, q.least)) in
    let below : 2 ^ (i + j) ≤ 2 ^ 2226 = pow_mono {j = 2226} (omega (arith, p.most, q.most)) in
    let top : d * e * 2 ^ (i + j) ≤ (2 ^ 24 - 1) * (2 ^ 24 - 1) * 2 ^ 2226 =
    mul-le (d * e) (2 ^ (i + j)) ((2 ^ 24 - 1) * (2 ^ 24 - 1)) (2 ^ 2226) most below in
    let bottom : 2 ^ 23 * 2 ^ 23 * 2 ^ 1976 ≤ d * e * 2 ^ (i + j) = mul-le (2 ^ 23 * 2 ^ 23) (2 ^ 1976) (d * e) (2 ^ (i + j)) least above in
    let value : d * 2 ^ i * (e * 2 ^ j) ≡ d * e * 2 ^ (i + j) = bound_at d i e j in
    let f : Finite z =
    finite_result z (mul binary32 v w) (exact_product v w) rounds.0 is rounds.1
    (finite_fraction (exact_product v w) _ 1
    (product_fraction binary32 v w x.scaled y.scaled (d * e * 2 ^ (i + j)) x.magnitude y.magnitude (sym value)) (omega (arith, top)))
    in
    sym (of_product_so (accrued g) binary32 v w x.scaled y.scaled (record { digits = d * e; place = i + j }) z (Some f.scaled) g
    x.magnitude y.magnitude refl is f.magnitude
    (λ r fraction result.
    beside g binary32 r f.scaled there result
    (underflow binary32 r limit _ 1 (record { digits = refl; place = refl }) fraction
    ∙ ap (λ (t : Bool). is_inexact binary32 r && t) (le-ltb _ _ (omega (arith, bottom)))
    ∙ no_and (is_inexact binary32 r)))
    ∙ ap (accrued g) (none_signals binary32 a b (product_flags binary32 v w) invalid x.magnitude.finite y.magnitude.finite))

-- a product with a zero is exact
pub product_of_zero : (g : Flags) (a b z : ℕ) → Finite a → Finite b → a % 2147483648 * (b % 2147483648) ≡ 0
    → z ≡ to_bits binary32 (mul binary32 (of_bits binary32 a) (of_bits binary32 b)) → accrued g (mul_flags binary32 a b) ≡ g
product_of_zero g a b z x y h is =
    let v = of_bits binary32 a in
    let w = of_bits binary32 b in
    let d = x.scaled.digits in
    let i = x.scaled.place in
    let e = y.scaled.digits in
    let j = y.scaled.place in
    let rounds = mul_rounds binary32 v w x.magnitude.finite y.magnitude.finite in
    let none : d * e ≡ 0 = elim (zero_of (a % 2147483648) (b % 2147483648) h) [
      | inl at ↦ ap (λ (n : ℕ). n * e) (x.zero at) ∙ zero-mul e
      | inr at ↦ ap (λ (n : ℕ). d * n) (y.zero at) ∙ omega arith
    ] in
    let value : d * 2 ^ i * (e * 2 ^ j) ≡ 0 = bound_at d i e j ∙ ap (λ (n : ℕ). n * 2 ^ (i + j)) none ∙ zero-mul (2 ^ (i + j)) in
    let f : Finite z =
    finite_result z (mul binary32 v w) (exact_product v w) rounds.0 is rounds.1
    (finite_fraction (exact_product v w) 0 1 (product_fraction binary32 v w x.scaled y.scaled 0 x.magnitude y.magnitude (sym value))
    (let k = pow_pos 2275 in omega (arith, k)))
    in
    sym (of_product_so (accrued g) binary32 v w x.scaled y.scaled (record { digits = d * e; place = i + j }) z (Some f.scaled) g
    x.magnitude y.magnitude refl is f.magnitude
    (λ r fraction result.
    let nothing : d * e * 2 ^ (i + j) + 0 * 2 ^ 2148 ≡ 0 = omega (arith, ap (λ (n : ℕ). n * 2 ^ (i + j)) none) in
    let zero : r.numerator ≡ 0 = omega (arith, fraction.value, ap (λ (n : ℕ). n * r.denominator) nothing) in
    exact g binary32 r f.scaled result (ap not (zero_exact binary32 r fraction.nonzero zero)))
    ∙ ap (accrued g) (none_signals binary32 a b (product_flags binary32 v w) invalid x.magnitude.finite y.magnitude.finite))

-- the quotient's two sides
below : (d i e j : ℕ) → d < 2 ^ 24 → 2 ^ 23 ≤ e → i ≤ 1113 → 988 ≤ j → d * 2 ^ (i + 2148) < 2 ^ 2275 * (e * 2 ^ j)
below d i e j h k l m =
    let top : 2 ^ (i + 2148) ≤ 2 ^ 3261 = pow_mono {j = 3261} (omega (arith, l)) in
    let a : d * 2 ^ (i + 2148) ≤ (2 ^ 24 - 1) * 2 ^ 3261 = mul-le d (2 ^ (i + 2148)) (2 ^ 24 - 1) (2 ^ 3261) (omega (arith, h)) top in
    let bottom : 2 ^ 988 ≤ 2 ^ j = pow_mono {i = 988} m in
    let b : 2 ^ 23 * 2 ^ 988 ≤ e * 2 ^ j = mul-le (2 ^ 23) (2 ^ 988) e (2 ^ j) k bottom in
    omega (arith, a, b)

above : (d i e j : ℕ) → 2 ^ 23 ≤ d → e < 2 ^ 24 → 988 ≤ i → j ≤ 1113 → amount limit * (e * 2 ^ j) ≤ d * 2 ^ (i + 2148)
above d i e j h k l m =
    let bottom : 2 ^ 3136 ≤ 2 ^ (i + 2148) = pow_mono {i = 3136} (omega (arith, l)) in
    let a : 2 ^ 23 * 2 ^ 3136 ≤ d * 2 ^ (i + 2148) = mul-le (2 ^ 23) (2 ^ 3136) d (2 ^ (i + 2148)) h bottom in
    let top : 2 ^ j ≤ 2 ^ 1113 = pow_mono {j = 1113} m in
    let b : e * 2 ^ j ≤ (2 ^ 24 - 1) * 2 ^ 1113 = mul-le e (2 ^ j) (2 ^ 24 - 1) (2 ^ 1113) (omega (arith, k)) top in
    omega (arith, a, b)

middling_no_zero : (a : ℕ) → Middling a → is_zero (of_bits binary32 a) ≡ false
middling_no_zero a p =
    let n = p.finite in
    let x = of_bits binary32 a in
    no_zero x n.magnitude.finite
    (elim (eq-zero-or-pos (num x)) [
      | inl z ↦
          let some : 0 < amount n.scaled * den x =
          mul-pos (mul-pos (let l = p.digits in omega (arith, l)) (pow_pos n.scaled.place)) (den_pos x)
          in
          absurd (omega (arith, some, sym n.magnitude.value ∙ ap (λ (k : ℕ). k * 2 ^ 1074) z))
      | inr q ↦ q
    ])

pub quotient : (g : Flags) (a b z : ℕ) → Middling a → Middling b → g.nx ≡ true
    → z ≡ to_bits binary32 (div binary32 (of_bits binary32 a) (of_bits binary32 b)) → accrued g (div_flags binary32 a b) ≡ g
quotient g a b z m l there is =
    let x = of_bits binary32 a in
    let y = of_bits binary32 b in
    let p = m.finite in
    let q = l.finite in
    let some = middling_no_zero b l in
    let d = p.scaled.digits in
    let i = p.scaled.place in
    let e = q.scaled.digits in
    let j = q.scaled.place in
    let invalid_not : is_invalid_quotient x y ≡ false =
    ap (λ (z : Bool). (is_zero x && z) || (float_is_infinite x && float_is_infinite y)) some
    ∙ ap (λ (z : Bool). (is_zero x && false) || (z && float_is_infinite y)) (finite_not_infinite x p.magnitude.finite)
    ∙ ap (λ (z : Bool). z || false) (and_right (is_zero x) false refl)
    in
    let divided_not : is_division_by_zero x y ≡ false = and_right (float_is_finite x) (is_zero y) some in
    let n : 0 < num y = not_zero y q.magnitude.finite some in
    let rounds = div_rounds binary32 x y p.magnitude.finite q.magnitude.finite n in
    let fraction = quotient_fraction binary32 x y p.scaled q.scaled p.magnitude q.magnitude n in
    let f : Finite z =
    finite_result z (div binary32 x y) (exact_quotient x y) rounds.0 is rounds.1
    (finite_fraction (exact_quotient x y) _ _ fraction (below d i e j p.magnitude.narrow l.digits m.most l.least))
    in
    sym
    (of_quotient_so (accrued g) binary32 x y p.scaled q.scaled z (Some f.scaled) g p.magnitude q.magnitude invalid_not divided_not is
    f.magnitude
    (λ r fraction result.
    beside g binary32 r f.scaled there result
    (underflow binary32 r limit _ _ (record { digits = refl; place = refl }) fraction
    ∙ ap (λ (t : Bool). is_inexact binary32 r && t) (le-ltb _ _ (above d i e j m.digits q.magnitude.narrow m.least l.most))
    ∙ no_and (is_inexact binary32 r)))
    ∙ ap (accrued g) (none_signals binary32 a b (quotient_flags binary32 x y) invalid p.magnitude.finite q.magnitude.finite))

pub quotient_no_nan : (a b : ℕ) → Middling a → Middling b → T (not (is_nan (div binary32 (of_bits binary32 a) (of_bits binary32 b))))
quotient_no_nan a b p q =
    let y = of_bits binary32 b in
    let n = q.finite.magnitude.finite in
    rounded_no_nan binary32 _ (exact_quotient (of_bits binary32 a) y)
    (div_rounds binary32 (of_bits binary32 a) y p.finite.magnitude.finite n (not_zero y n (middling_no_zero b q)))
