-- The exact results of operations on magnitudes, as multiples of 2 ^ -2148.
use Rattle.std.proofs.Common.{◌≡◌, ℕ, ◌+◌, ◌*◌, ◌^◌, ◌<◌, Bool, sym, ap, ◌∙◌, arith, inl, inr}
use Rattle.std.proofs.Math.Nat.{eq-zero-or-pos, mul-pos, zero-mul}
use Rattle.std.proofs.lemmas.Nat.{pow-add, pow_pos}
use Rattle.rv_float_flags.specs.Exact.{Ratio, combined, exact_product, exact_quotient, exact_value}
use Rattle.rv_float_flags.specs.Scaled.{amount, IsFraction, IsMagnitude}
use Rattle.rv_float_flags.specs.declared.scaled.Scaled.{Scaled}
use Rattle.rv_float_flags.proofs.Numbers.{combined_times}
use Rattle.rv_float_flags.proofs.Roundings.{bound_at, square}
use lib.Ieee.{Float, Format}
use lib.Ieee.Positive.{den, den_pos, num}

-- ---- what the code makes of magnitudes

pub raised_amount : (p r : Scaled) → r ≡ record { digits = p.digits; place = p.place + 1074 } → amount r ≡ amount p * 2 ^ 1074
raised_amount p r e =
    let a : 2 ^ (p.place + 1074) ≡ 2 ^ p.place * 2 ^ 1074 = pow-add 2 p.place 1074 in
    ap amount e ∙ ap (λ (x : ℕ). p.digits * x) a
    ∙ (let k : p.digits * (2 ^ p.place * 2 ^ 1074) ≡ p.digits * 2 ^ p.place * 2 ^ 1074 = omega arith in k)

pub product_amount : (p q r : Scaled) → r ≡ record { digits = p.digits * q.digits; place = p.place + q.place }
    → amount r ≡ amount p * amount q
product_amount p q r e = ap amount e ∙ sym (bound_at p.digits p.place q.digits q.place)

-- ---- from products with 2 ^ 1074 to fractions

by_square : (r : Ratio) (n m : ℕ) → r.numerator * (2 ^ 1074 * 2 ^ 1074) * m ≡ n * r.denominator
    → r.numerator * 2 ^ 2148 * m ≡ n * r.denominator
by_square r n m h = ap (λ (z : ℕ). r.numerator * z * m) square ∙ h

sum_cross : (o : Bool) (a b c k l u w : ℕ) → a * w ≡ k * u * c → b * w ≡ l * u * c → combined o a b * w * 1 ≡ combined o (k * u) (l * u) * c
sum_cross o a b c k l u w e f =
    (let g : combined o a b * w * 1 ≡ combined o a b * w = omega arith in g)
    ∙ sym (combined_times o a b w)
    ∙ ap (λ (x : ℕ). combined o x (b * w)) e
    ∙ ap (λ (x : ℕ). combined o (k * u * c) x) f
    ∙ combined_times o (k * u) (l * u) c

pub sum_fraction : (f : Format) (o : Bool) (x y : Float) (p q : Scaled) → IsMagnitude f x p → IsMagnitude f y q
    → IsFraction (record { numerator = combined o (num x * den y) (num y * den x); denominator = den x * den y })
    (combined o (amount p * 2 ^ 1074) (amount q * 2 ^ 1074)) 1
sum_fraction f o x y p q h g =
    let u = 2 ^ 1074 in
    let a : num x * den y * (u * u) ≡ amount p * u * (den x * den y) = omega (arith, ap (λ (z : ℕ). z * (u * den y)) h.value) in
    let b : num y * den x * (u * u) ≡ amount q * u * (den x * den y) = omega (arith, ap (λ (z : ℕ). z * (u * den x)) g.value) in
    let d : 0 < den x * den y = mul-pos (den_pos x) (den_pos y) in
    record {
      nonzero = d;
      divisor = omega arith;
      value = by_square (record { numerator = combined o (num x * den y) (num y * den x); denominator = den x * den y })
          (combined o (amount p * u) (amount q * u)) 1
          (sum_cross o (num x * den y) (num y * den x) (den x * den y) (amount p) (amount q) u (u * u) a b);
    }

pub product_fraction : (f : Format) (x y : Float) (p q : Scaled) (n : ℕ) → IsMagnitude f x p → IsMagnitude f y q
    → n ≡ amount p * amount q → IsFraction (exact_product x y) n 1
product_fraction f x y p q n h g e =
    let u = 2 ^ 1074 in
    let a : num x * num y * (u * u) * 1 ≡ amount p * amount q * (den x * den y) =
    omega (arith, ap (λ (z : ℕ). z * (num y * u)) h.value, ap (λ (z : ℕ). z * (amount p * den x)) g.value)
    in
    record {
      nonzero = mul-pos (den_pos x) (den_pos y);
      divisor = omega arith;
      value = by_square (exact_product x y) n 1 (a ∙ ap (λ (z : ℕ). z * (den x * den y)) (sym e));
    }

pub fused_fraction : (f : Format) (o : Bool) (x y z : Float) (p q r : Scaled) → IsMagnitude f x p → IsMagnitude f y q → IsMagnitude f z r
    → IsFraction (record { numerator = combined o (num x * num y * den z) (num z * (den x * den y)); denominator = den x * den y * den z })
    (combined o (amount p * amount q) (amount r * 2 ^ 1074)) 1
fused_fraction f o x y z p q r h g k =
    let u = 2 ^ 1074 in
    let c = den x * den y * den z in
    let a : num x * num y * den z * (u * u) ≡ amount p * amount q * c =
    omega (arith, ap (λ (i : ℕ). i * (num y * u * den z)) h.value, ap (λ (i : ℕ). i * (amount p * den x * den z)) g.value)
    in
    let b : num z * (den x * den y) * (u * u) ≡ amount r * u * c = omega (arith, ap (λ (i : ℕ). i * (u * den x * den y)) k.value) in
    record {
      nonzero = mul-pos (mul-pos (den_pos x) (den_pos y)) (den_pos z);
      divisor = omega arith;
      value = by_square (record { numerator = combined o (num x * num y * den z) (num z * (den x * den y)); denominator = c })
          (combined o (amount p * amount q) (amount r * u)) 1
          (terms o (num x * num y * den z) (num z * (den x * den y)) c (amount p * amount q) (amount r * u) (u * u) a b);
    }
  where
    terms : (o : Bool) (a b c k l w : ℕ) → a * w ≡ k * c → b * w ≡ l * c → combined o a b * w * 1 ≡ combined o k l * c
    terms o a b c k l w e f =
        (let g : combined o a b * w * 1 ≡ combined o a b * w = omega arith in g)
        ∙ sym (combined_times o a b w)
        ∙ ap (λ (x : ℕ). combined o x (b * w)) e
        ∙ ap (λ (x : ℕ). combined o (k * c) x) f
        ∙ combined_times o k l c

pub quotient_fraction : (f : Format) (x y : Float) (p q : Scaled) → IsMagnitude f x p → IsMagnitude f y q → 0 < num y
    → IsFraction (exact_quotient x y) (p.digits * 2 ^ (p.place + 2148)) (amount q)
quotient_fraction f x y p q h g k =
    let u = 2 ^ 1074 in
    let e : 2 ^ (p.place + 2148) ≡ 2 ^ p.place * (u * u) = pow-add 2 p.place 2148 ∙ ap (λ (z : ℕ). 2 ^ p.place * z) square in
    let n : amount p * (u * u) ≡ p.digits * 2 ^ (p.place + 2148) =
    (let w : amount p * (u * u) ≡ p.digits * (2 ^ p.place * (u * u)) = omega arith in w) ∙ ap (λ (z : ℕ). p.digits * z) (sym e)
    in
    let a : num x * den y * (u * u) * amount q ≡ amount p * (u * u) * (num y * den x) =
    omega (arith, ap (λ (z : ℕ). z * (u * den y * amount q)) h.value, ap (λ (z : ℕ). z * (amount p * den x * u)) g.value)
    in
    let w : 0 < num y * u = mul-pos k (pow_pos 1074) in
    let v : 0 < amount q * den y = omega (arith, g.value, w) in
    record {
      nonzero = mul-pos k (den_pos x);
      divisor = first (amount q) (den y) v;
      value = by_square (exact_quotient x y) (p.digits * 2 ^ (p.place + 2148)) (amount q) (a ∙ ap (λ (z : ℕ). z * (num y * den x)) n);
    }
  where
    first : (a b : ℕ) → 0 < a * b → 0 < a
    first a b h =
        elim (eq-zero-or-pos a) [
          | inl z ↦ let e : a * b ≡ 0 = ap (λ (x : ℕ). x * b) z ∙ zero-mul b in
              absurd (omega (arith, e, h))
          | inr l ↦ l
        ]

pub value_fraction : (f : Format) (x : Float) (p : Scaled) (n : ℕ) → IsMagnitude f x p → n ≡ amount p * 2 ^ 1074
    → IsFraction (exact_value x) n 1
value_fraction f x p n h e =
    let u = 2 ^ 1074 in
    let a : num x * (u * u) * 1 ≡ amount p * u * den x = omega (arith, ap (λ (z : ℕ). z * u) h.value) in
    record { nonzero = den_pos x; divisor = omega arith; value = by_square (exact_value x) n 1 (a ∙ ap (λ (z : ℕ). z * den x) (sym e)) }
