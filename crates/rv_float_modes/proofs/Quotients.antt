-- Quotients, as whole multiples and a rest.
use Rattle.std.proofs.Common.{◌≡◌, ℕ, ◌+◌, ◌-◌, ◌*◌, ◌/◌, ◌%◌, ◌^◌, ◌<◌, ◌≤◌, not, nat_eq, nat_lt, sym, ap, ◌∙◌, refl, arith, inl, inr}
use Rattle.std.proofs.Math.Nat.{div-add-mod', div-le_self, eq-zero-or-pos, eq_of_mul-eq-mul_right, le-div_iff_mul-le}
use Rattle.std.proofs.Math.Nat.{le_of_mul-le-mul_right, lt_of_mul-lt-mul_right, mul-lt-mul_of_pos_right, mul-pos, zero-mul}
use Rattle.std.proofs.Math.Arith.{digits_div, digits_mod}
use Rattle.std.proofs.lemmas.Bool.{eq-eqb, le-ltb, lt-ltb, ne_eqb}
use Rattle.std.proofs.lemmas.Nat.{mod_below, pow-add, pow_pos}
use Rattle.rv_float_flags.specs.Exact.{Ratio}
use Rattle.rv_float_flags.specs.Scaled.{IsFraction}
use Rattle.rv_float_flags.proofs.Numbers.{power_split}
use Rattle.rv_float_modes.specs.Enclosed.{Encloses, IsNumber}
use Rattle.rv_float_modes.specs.declared.magnitude.Magnitude.{Magnitude}

no_numerator : (a b u : ℕ) → 0 < u → a * u ≡ b → b ≡ 0 → a ≡ 0
no_numerator a b u h e z =
    elim (eq-zero-or-pos a) [ inl y ↦ y | inr p ↦ let m : 0 < a * u = mul-pos p h in absurd (omega (arith, m, e, z)) ]

pub zero_number : (r : Ratio) (n m place : ℕ) → IsFraction r n m → n ≡ 0 → IsNumber r 0 place
zero_number r n m place h z =
    let a : r.numerator * 2 ^ 2148 * m ≡ 0 = h.value ∙ ap (λ (x : ℕ). x * r.denominator) z ∙ zero-mul r.denominator in
    let b : r.numerator * 2 ^ 2148 ≡ 0 = no_numerator (r.numerator * 2 ^ 2148) 0 m h.divisor a refl in
    let c : r.numerator ≡ 0 = no_numerator r.numerator 0 (2 ^ 2148) (pow_pos 2148) b refl in
    record {
      nonzero = h.nonzero;
      value = ap (λ (x : ℕ). x * 2 ^ 4096) c ∙ zero-mul (2 ^ 4096) ∙ sym (zero-mul r.denominator)
          ∙ ap (λ (x : ℕ). x * r.denominator) (sym (zero-mul (2 ^ place)));
    }

-- X is D / q multiples of W, and a rest
parts : (X D q W Q t : ℕ) → 0 < q → 0 < W → X * q ≡ D * W → Q * q + t ≡ D → t < q → (Q ≡ X / W) × (not (nat_eq t 0) ≡ nat_lt 0 (X % W))
parts X D q W Q t h w e k l =
    let a : Q * W * q + t * W ≡ X * q = omega (arith, e, ap (λ (z : ℕ). z * W) k) in
    let b : Q * W * q ≤ X * q = omega (arith, a) in
    let c : Q * W ≤ X = le_of_mul-le-mul_right b h in
    let o = X - Q * W in
    let f : Q * W + o ≡ X = omega (arith, c) in
    let g : o * q ≡ t * W = omega (arith, a, ap (λ (z : ℕ). z * q) f) in
    let m : t * W < q * W = mul-lt-mul_of_pos_right l w in
    let n : o < W = lt_of_mul-lt-mul_right q (let z : o * q < W * q = omega (arith, g, m) in z) in
    let i : X / W ≡ Q = sym (ap (λ (z : ℕ). z / W) f) ∙ digits_div Q n in
    let j : X % W ≡ o = sym (ap (λ (z : ℕ). z % W) f) ∙ digits_mod Q n in
    (sym i, test t o g ∙ ap (λ (z : ℕ). nat_lt 0 z) (sym j))
  where
    test : (t o : ℕ) → o * q ≡ t * W → not (nat_eq t 0) ≡ nat_lt 0 o
    test t o g = elim (eq-zero-or-pos t) [
      | inl z ↦
          let y : o ≡ 0 = no_numerator o (t * W) q h g (ap (λ (x : ℕ). x * W) z ∙ zero-mul W) in
          ap not (eq-eqb t 0 z) ∙ sym (le-ltb 0 o (omega (arith, y)))
      | inr p ↦
          let y : 0 < t * W = mul-pos p w in
          let x : 0 < o =
          elim (eq-zero-or-pos o) [
            | inr s ↦ s
            | inl s ↦ let u : o * q ≡ 0 = ap (λ (v : ℕ). v * q) s ∙ zero-mul q in
                absurd (omega (arith, u, g, y))
          ] in
          ap not (ne_eqb t 0 (λ z. absurd (omega (arith, z, p)))) ∙ sym (lt-ltb 0 o x)
    ]

pub divided_encloses : (r : Ratio) (d i q j : ℕ) (e : Magnitude) → IsFraction r (d * 2 ^ (i + 2148)) (q * 2 ^ j) → 0 < q
    → e.digits * 2 ^ e.place ≡ d * 2 ^ (i + 4096)
    → j ≤ e.place → Encloses r (record { digits = e.digits / q; place = e.place - j; goes_on = not (nat_eq (e.digits % q) 0) })
divided_encloses r d i q j e f h v l =
    let c = r.denominator in
    let n = r.numerator in
    let p = e.place - j in
    let W = c * 2 ^ p in
    let w : 0 < W = mul-pos f.nonzero (pow_pos p) in
    let a : 2 ^ (2148 + 1948) ≡ 2 ^ 2148 * 2 ^ 1948 = pow-add 2 2148 1948 in
    let b : 2 ^ (i + 2148 + 1948) ≡ 2 ^ (i + 2148) * 2 ^ 1948 = pow-add 2 (i + 2148) 1948 in
    let s : e.digits * 2 ^ p * 2 ^ j ≡ d * (2 ^ (i + 2148) * 2 ^ 1948) =
    power_split e.digits j e.place l ∙ v ∙ ap (λ (z : ℕ). d * 2 ^ z) (let k : i + 4096 ≡ i + 2148 + 1948 = omega arith in k)
    ∙ ap (λ (z : ℕ). d * z) b
    in
    let x : n * 2 ^ 4096 * q * 2 ^ j ≡ e.digits * W * 2 ^ j =
    ap (λ (z : ℕ). n * z * q * 2 ^ j) a ∙ cross n (2 ^ 2148) (2 ^ 1948) q (2 ^ j) d (2 ^ (i + 2148)) c f.value
    ∙ sym (ap (λ (z : ℕ). z * c) s) ∙ regroup e.digits (2 ^ p) (2 ^ j) c
    in
    let y : n * 2 ^ 4096 * q ≡ e.digits * W = eq_of_mul-eq-mul_right (2 ^ j) (pow_pos j) (n * 2 ^ 4096 * q) (e.digits * W) x in
    let k = parts (n * 2 ^ 4096) e.digits q W (e.digits / q) (e.digits % q) h w y (div-add-mod' e.digits q) (mod_below e.digits q h) in
    record { nonzero = f.nonzero; whole = k.0; rest = k.1 }
  where
    cross : (n u v q w d p c : ℕ) → n * u * (q * w) ≡ d * p * c → n * (u * v) * q * w ≡ d * (p * v) * c
    cross n u v q w d p c e = omega (arith, ap (λ (z : ℕ). z * v) e)

    regroup : (d p j c : ℕ) → d * p * j * c ≡ d * (c * p) * j
    regroup d p j c = omega arith

pub quotient_wide : (D q : ℕ) → 2 ^ 126 ≤ D → 0 < q → q < 2 ^ 53 → 2 ^ 63 ≤ D / q
quotient_wide D q h p l =
    let a : 2 ^ 63 * q ≤ D = omega (arith, h, l) in
    (le-div_iff_mul-le p).1 a

pub quotient_narrow : (D q : ℕ) → D < 2 ^ 127 → D / q < 2 ^ 127
quotient_narrow D q h = let a : D / q ≤ D = div-le_self D q in omega (arith, a, h)
