-- What a quotient of normal doubles raises beside NX, where they lie close enough.
use Rattle.std.proofs.Common.{◌≡◌, ℕ, suc, ◌+◌, ◌-◌, ◌*◌, ◌%◌, ◌^◌, ◌<◌, ◌≤◌, Bool, true, false, not, ◌&&◌, ◌||◌, nat_le, inl, inr, mul-pos}
use Rattle.std.proofs.Common.{sym, ap, ◌∙◌, refl, arith}
use Rattle.std.proofs.Math.Nat.{eq-zero-or-pos, lt_of_mul-lt-mul_right, mul-lt-mul_of_pos_right}
use Rattle.std.proofs.Math.Pow.{pow_mono}
use Rattle.std.proofs.lemmas.Nat.{mul-le, pow-add, pow_pos}
use Rattle.std.proofs.lemmas.Bool.{and_parts, and_right, le-ltb, leb-true, ne_eqb, true≢false}
use Rattle.std.specs.Float.{float_is_finite, float_is_infinite}
use Rattle.std.specs.Prelude.{Some}
use Rattle.rv_float_flags.specs.Exact.{exact_quotient, is_inexact, rounded, Ratio}
use Rattle.rv_float_flags.specs.Flags.{accrued, invalid}
use Rattle.rv_float_flags.specs.NoNewFlags.{is_normal, double_quotient_raises_no_new_flags}
use Rattle.rv_float_flags.specs.Operations.{div_flags, is_division_by_zero, is_invalid_quotient, is_zero, quotient_flags}
use Rattle.rv_float_flags.specs.Scaled.{amount, exponent, IsFraction, IsMagnitude}
use Rattle.rv_float_flags.specs.declared.flags.Flags.{Flags}
use Rattle.rv_float_flags.specs.declared.scaled.Scaled.{Scaled}
use Rattle.rv_float_flags.proofs.FiniteResults.{beside, finite_below, finite_result, limit, rounded_no_nan, Finite}
use Rattle.rv_float_flags.proofs.Fractions.{quotient_fraction}
use Rattle.rv_float_flags.proofs.Magnitudes.{normal}
use Rattle.rv_float_flags.proofs.Operations.{none_signals, of_quotient_so}
use Rattle.rv_float_flags.proofs.Results.{div_rounds, not_zero}
use Rattle.rv_float_flags.proofs.Roundings.{no_and, square, underflow}
use Rattle.std.specs.Bool.{beq}
use lib.Dec.{T, eqb}
use lib.Ieee.{Float, nan, inf, fin, binary64, div, down, eq, is_nan, of_bits, to_bits, up}
use lib.Ieee.Positive.{den, den_pos, num}

-- a double that is normal, by its pattern: all of its 53 digits count
record Normal (a : ℕ) : Type 0 where
  scaled : Scaled
  magnitude : IsMagnitude binary64 (of_bits binary64 a) scaled
  place : scaled.place ≡ exponent a - 1
  least : 2 ^ 52 ≤ scaled.digits
  exponent : 1 ≤ exponent a

normal_so : (a : ℕ) → 1 ≤ exponent a → exponent a ≤ 2046 → Normal a
normal_so a p h =
    let x = exponent a - 1 in
    let e : exponent a ≡ suc x = omega (arith, p) in
    let x_small : x < 2046 = omega (arith, h, p) in
    record {
      scaled = record { digits = 4503599627370496 + a % 4503599627370496; place = x };
      magnitude = normal binary64 a x 0 _ e (λ ones. absurd (omega (arith, ones, x_small))) refl refl (omega arith) (omega arith)
          (omega (arith, x_small));
      place = refl;
      least = omega arith;
      exponent = p;
    }

finite_fraction : (r : Ratio) (n m : ℕ) → IsFraction r n m → n < 2 ^ 3171 * m → float_is_finite (rounded binary64 r) ≡ true
finite_fraction r n m fraction h =
    let a : r.numerator * (2 ^ 1074 * 2 ^ 1074) * m ≡ n * r.denominator =
    ap (λ (z : ℕ). r.numerator * z * m) (sym square) ∙ fraction.value in
    let b : n * r.denominator < 2 ^ 3171 * m * r.denominator = mul-lt-mul_of_pos_right h fraction.nonzero in
    let c : r.numerator * 2 ^ 1074 * (2 ^ 1074 * m) < 2 ^ 2097 * r.denominator * (2 ^ 1074 * m) = omega (arith, a, b) in
    finite_below binary64 r fraction.nonzero (lt_of_mul-lt-mul_right (2 ^ 1074 * m) c)

-- the quotient's two sides, where the places are so close
below : (d i e j : ℕ) → d < 2 ^ 53 → 2 ^ 52 ≤ e → i ≤ j + 1021 → d * 2 ^ (i + 2148) < 2 ^ 3171 * (e * 2 ^ j)
below d i e j h k l =
    let a : 2 ^ (i + 2148) ≤ 2 ^ (j + 3169) = pow_mono (omega (arith, l)) in
    let b : d * 2 ^ (i + 2148) ≤ (2 ^ 53 - 1) * 2 ^ (j + 3169) =
    mul-le d (2 ^ (i + 2148)) (2 ^ 53 - 1) (2 ^ (j + 3169)) (omega (arith, h)) a in
    let c : 2 ^ (j + 3169) ≡ 2 ^ j * 2 ^ 3169 = pow-add 2 j 3169 in
    let p : 0 < 2 ^ j = pow_pos j in
    let f : 2 ^ 52 * 2 ^ j ≤ e * 2 ^ j = mul-le (2 ^ 52) (2 ^ j) e (2 ^ j) k (omega arith) in
    omega (arith, b, c, f, p)

above : (d i e j : ℕ) → 2 ^ 52 ≤ d → e < 2 ^ 53 → j ≤ i + 1021 → amount limit * (e * 2 ^ j) ≤ d * 2 ^ (i + 2148)
above d i e j h k l =
    let a : 2 ^ j ≤ 2 ^ (i + 1021) = pow_mono (omega (arith, l)) in
    let b : e * 2 ^ j ≤ (2 ^ 53 - 1) * 2 ^ (i + 1021) = mul-le e (2 ^ j) (2 ^ 53 - 1) (2 ^ (i + 1021)) (omega (arith, k)) a in
    let c : 2 ^ (i + 1021) ≡ 2 ^ i * 2 ^ 1021 = pow-add 2 i 1021 in
    let f : 2 ^ (i + 2148) ≡ 2 ^ i * 2 ^ 2148 = pow-add 2 i 2148 in
    let g : 2 ^ 52 * 2 ^ (i + 2148) ≤ d * 2 ^ (i + 2148) = mul-le (2 ^ 52) (2 ^ (i + 2148)) d (2 ^ (i + 2148)) h (omega arith) in
    omega (arith, b, c, f, g)

pub finite_not_infinite : (x : Float) → float_is_finite x ≡ true → float_is_infinite x ≡ false
unfolding float_is_finite float_is_infinite
finite_not_infinite nan h = refl
finite_not_infinite (inf s) h = absurd (true≢false (sym h))
finite_not_infinite (fin s m e) h = refl

pub no_zero : (x : Float) → float_is_finite x ≡ true → 0 < num x → is_zero x ≡ false
unfolding eq float_is_finite
no_zero nan h p = refl
no_zero (inf s) h p = refl
no_zero (fin s m e) h p =
    ap (λ (b : Bool). b && (beq s false || eqb (m * up e * 1) 0))
    (ne_eqb (m * up e * 1) (0 * 1 * down e) (λ same. absurd (omega (arith, same, p))))

normal_no_zero : (a : ℕ) → Normal a → is_zero (of_bits binary64 a) ≡ false
normal_no_zero a n =
    let x = of_bits binary64 a in
    no_zero x n.magnitude.finite
    (elim (eq-zero-or-pos (num x)) [
      | inl z ↦
          let some : 0 < amount n.scaled * den x =
          mul-pos (mul-pos (let l = n.least in omega (arith, l)) (pow_pos n.scaled.place)) (den_pos x)
          in
          absurd (omega (arith, some, sym n.magnitude.value ∙ ap (λ (k : ℕ). k * 2 ^ 1074) z))
      | inr p ↦ p
    ])

normal_of : (a : ℕ) → is_normal a ≡ true → Normal a
normal_of a h =
    let each = and_parts _ _ h in
    normal_so a (leb-true _ _ each.0) (leb-true _ _ each.1)

pub quotient : (g : Flags) (a b : ℕ) → double_quotient_raises_no_new_flags g a b ≡ true → accrued g (div_flags binary64 a b) ≡ g
quotient g a b found =
    let range = and_parts _ _ found in
    let second = and_parts _ _ range.0 in
    let first = and_parts _ _ second.0 in
    let there : g.nx ≡ true = first.0 in
    let bounds = and_parts (nat_le (exponent a) (exponent b + 1021)) (nat_le (exponent b) (exponent a + 1021)) range.1 in
    let x = of_bits binary64 a in
    let y = of_bits binary64 b in
    let p = normal_of a first.1 in
    let q = normal_of b second.1 in
    let some = normal_no_zero b q in
    let d = p.scaled.digits in
    let i = p.scaled.place in
    let e = q.scaled.digits in
    let j = q.scaled.place in
    let near : i ≤ j + 1021 = (let l = leb-true _ _ bounds.0 in omega (arith, p.place, q.place, l, q.exponent)) in
    let far : j ≤ i + 1021 = (let l = leb-true _ _ bounds.1 in omega (arith, p.place, q.place, l, p.exponent)) in
    let invalid_not : is_invalid_quotient x y ≡ false =
    ap (λ (z : Bool). (is_zero x && z) || (float_is_infinite x && float_is_infinite y)) some
    ∙ ap (λ (z : Bool). (is_zero x && false) || (z && float_is_infinite y)) (finite_not_infinite x p.magnitude.finite)
    ∙ ap (λ (z : Bool). z || false) (and_right (is_zero x) false refl)
    in
    let divided_not : is_division_by_zero x y ≡ false = and_right (float_is_finite x) (is_zero y) some in
    let n : 0 < num y = not_zero y q.magnitude.finite some in
    let rounds = div_rounds binary64 x y p.magnitude.finite q.magnitude.finite n in
    let fraction = quotient_fraction binary64 x y p.scaled q.scaled p.magnitude q.magnitude n in
    let z = to_bits binary64 (div binary64 x y) in
    let f : Finite z =
    finite_result z (div binary64 x y) (exact_quotient x y) rounds.0 refl rounds.1
    (finite_fraction (exact_quotient x y) _ _ fraction (below d i e j p.magnitude.narrow q.least near))
    in
    sym
    (of_quotient_so (accrued g) binary64 x y p.scaled q.scaled z (Some f.scaled) g p.magnitude q.magnitude invalid_not divided_not refl
    f.magnitude
    (λ r fraction result.
    beside g binary64 r f.scaled there result
    (underflow binary64 r limit _ _ (record { digits = refl; place = refl }) fraction
    ∙ ap (λ (t : Bool). is_inexact binary64 r && t) (le-ltb _ _ (above d i e j p.least q.magnitude.narrow far))
    ∙ no_and (is_inexact binary64 r)))
    ∙ ap (accrued g) (none_signals binary64 a b (quotient_flags binary64 x y) invalid p.magnitude.finite q.magnitude.finite))

pub quotient_no_nan : (a b : ℕ) → is_normal a ≡ true → is_normal b ≡ true
    → T (not (is_nan (div binary64 (of_bits binary64 a) (of_bits binary64 b))))
quotient_no_nan a b h k =
    let p = normal_of a h in
    let q = normal_of b k in
    let y = of_bits binary64 b in
    rounded_no_nan binary64 _ (exact_quotient (of_bits binary64 a) y)
    (div_rounds binary64 (of_bits binary64 a) y p.magnitude.finite q.magnitude.finite (not_zero y q.magnitude.finite (normal_no_zero b q)))

pub normal_below : (a : ℕ) → is_normal a ≡ true → a % 9223372036854775808 < 9218868437227405312
normal_below a h = let l = leb-true _ _ (and_parts (nat_le 1 (exponent a)) _ h).1 in omega (arith, l)

pub both_normal : (g : Flags) (a b : ℕ) → double_quotient_raises_no_new_flags g a b ≡ true → (is_normal a ≡ true) × (is_normal b ≡ true)
both_normal g a b h =
    let two = and_parts (g.nx && is_normal a) (is_normal b) (and_parts _ _ h).0 in
    ((and_parts g.nx (is_normal a) two.0).1, two.1)
