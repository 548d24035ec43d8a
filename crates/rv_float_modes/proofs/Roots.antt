-- Roots, as whole multiples and a rest.
use Rattle.std.proofs.Common.{◌≡◌, ℕ, suc, ◌+◌, ◌-◌, ◌*◌, ◌/◌, ◌%◌, ◌^◌, ◌<◌, ◌≤◌, Bool, true, false, cond, not, nat_eq, nat_lt, sym, ap}
use Rattle.std.proofs.Common.{◌∙◌, refl, arith, inl, inr}
use Rattle.std.proofs.Math.Nat.{eq_of_mul-eq-mul_right, mod-eq_of_lt, mul-div_cancel, mul-le-mul, mul-le-mul_right, mul-lt-mul_of_pos_right}
use Rattle.std.proofs.Math.Nat.{mul-pos, zero-mul}
use Rattle.std.proofs.Math.Pow.{pow_mono}
use Rattle.std.proofs.Math.Arith.{digits_div, digits_mod}
use Rattle.std.proofs.lemmas.Bool.{cases_lt, eq-eqb, eqb-true, le-ltb, lt-ltb, ne_eqb, true≢false}
use Rattle.std.proofs.lemmas.Nat.{leading_top, pow-add, pow_pos}
use Rattle.rv_float_flags.specs.Scaled.{IsMagnitude}
use Rattle.rv_float_flags.specs.declared.scaled.Scaled.{Scaled}
use Rattle.rv_float_flags.proofs.Numbers.{lt_times, power_split}
use Rattle.rv_float_modes.specs.Enclosed.{Encloses}
use Rattle.rv_float_modes.specs.Operations.{exact_root}
use lib.Count.{count_leading_zeros}
use lib.Ieee.{Float, Format, root_below, root_twice, size}
use lib.Ieee.Positive.{den, den_pos, num}
use lib.Ieee.Root.{whole_part}

-- ---- digits moved up, by as many places as leave an even number of them

pub record Even (D i s : ℕ) : Type 0 where
  pub room : (i + count_leading_zeros 128 D) % 2 ≤ count_leading_zeros 128 D
  pub little : s < 128
  pub even : (i + 7118 - s) % 2 ≡ 0
  pub whole : D * 2 ^ s % 2 ^ 128 ≡ D * 2 ^ s
  pub wide : 2 ^ 126 ≤ D * 2 ^ s

pub even : (D i : ℕ) → 0 < D → D < 2 ^ 53 → Even D i (count_leading_zeros 128 D - (i + count_leading_zeros 128 D) % 2)
even D i h l =
    let t = leading_top 128 D h (omega (arith, l)) in
    let j = t.0 in
    let z = count_leading_zeros 128 D in
    let e : z + suc j ≡ 128 = t.1 in
    let few : j < 53 =
    elim (cases_lt j 53) [ inl g ↦ g | inr g ↦ let m : 2 ^ 53 ≤ 2 ^ j = pow_mono g in absurd (omega (arith, m, l, t.2)) ] in
    let s = z - (i + z) % 2 in
    let a : 2 ^ j * 2 ^ s ≤ D * 2 ^ s = mul-le-mul_right (2 ^ s) t.2 in
    let b : D * 2 ^ s < 2 ^ suc j * 2 ^ s = mul-lt-mul_of_pos_right t.3 (pow_pos s) in
    let c : 2 ^ (j + s) ≡ 2 ^ j * 2 ^ s = pow-add 2 j s in
    let d : 2 ^ (suc j + s) ≡ 2 ^ suc j * 2 ^ s = pow-add 2 (suc j) s in
    let f : 2 ^ 126 ≤ 2 ^ (j + s) = pow_mono (let q : 126 ≤ j + s = omega (arith, e, few) in q) in
    let g : 2 ^ (suc j + s) ≤ 2 ^ 128 = pow_mono (let q : suc j + s ≤ 128 = omega (arith, e, few) in q) in
    record {
      room = omega (arith, e, few);
      little = omega (arith, e);
      even = omega (arith, e, few);
      whole = mod-eq_of_lt (let q : D * 2 ^ s < 2 ^ 128 = omega (arith, b, d, g) in q);
      wide = omega (arith, a, c, f);
    }

-- a root of 2 ^ 126 at least
pub root_wide : (S d : ℕ) → 2 ^ 126 ≤ S → S < (d + 1) * (d + 1) → 2 ^ 63 ≤ d
root_wide S d h l = elim (cases_lt d (2 ^ 63)) [
  | inr g ↦ g
  | inl g ↦ let k : d + 1 ≤ 2 ^ 63 = omega (arith, g) in let m : (d + 1) * (d + 1) ≤ 2 ^ 63 * 2 ^ 63 = mul-le-mul k k in
      absurd (omega (arith, m, h, l))
]

pub root_narrow : (d : ℕ) → d < 2 ^ 64 → d < 2 ^ 127
root_narrow d h = omega (arith, h)

-- ---- the whole part of the root of N = S * c ^ 2, by that of S

pub squares : (a b : ℕ) → a * a ≤ b * b → a ≤ b
squares a b h = elim (cases_lt b a) [
  | inr g ↦ g
  | inl g ↦ let k : b + 1 ≤ a = omega (arith, g) in let m : (b + 1) * (b + 1) ≤ a * a = mul-le-mul k k in absurd (omega (arith, m, h))
]

pub squares_lt : (a b : ℕ) → a * a < b * b → a < b
squares_lt a b h = elim (cases_lt a b) [ inl g ↦ g | inr g ↦ let m : b * b ≤ a * a = mul-le-mul g g in absurd (omega (arith, m, h)) ]

at_least : (S d c R : ℕ) → d * d ≤ S → S * (c * c) < (R + 1) * (R + 1) → d * c ≤ R
at_least S d c R h l =
    let m : d * d * (c * c) ≤ S * (c * c) = mul-le-mul_right (c * c) h in
    let k : d * c < R + 1 = squares_lt (d * c) (R + 1) (omega (arith, m, l)) in
    omega (arith, k)

below : (S d c R : ℕ) → 0 < c → S < (d + 1) * (d + 1) → R * R ≤ S * (c * c) → R < (d + 1) * c
below S d c R p h l =
    let m : S * (c * c) < (d + 1) * (d + 1) * (c * c) = mul-lt-mul_of_pos_right h (mul-pos p p) in
    squares_lt R ((d + 1) * c) (omega (arith, m, l))

same_root : (S d c R : ℕ) → d * d ≡ S → d * c ≤ R → R * R ≤ S * (c * c) → R ≡ d * c
same_root S d c R e h l =
    let m : d * d * (c * c) ≡ S * (c * c) = ap (λ (z : ℕ). z * (c * c)) e in
    let k : R ≤ d * c = squares R (d * c) (omega (arith, m, l)) in
    omega (arith, h, k)

pub twice_is : (N : ℕ) → root_twice N ≡ 2 * root_below (size N) N + cond (nat_eq (root_below (size N) N * root_below (size N) N) N) 0 1
unfolding root_twice
twice_is N = refl

pub one_more : (b : Bool) → cond b 0 1 ≤ 1
one_more true = omega arith
one_more false = omega arith

-- twice the root, and one more where it goes on: d multiples of 2 * c and a rest
pub record Root (S d c T : ℕ) : Type 0 where
  pub rest : ℕ
  pub value : d * (2 * c) + rest ≡ T
  pub low : rest < 2 * c
  pub test : not (nat_eq (d * d) S) ≡ nat_lt 0 rest

root_at : (S d c R o : ℕ) (b : Bool) → 0 < c → d * d ≤ S → S < (d + 1) * (d + 1) → R * R ≤ S * (c * c) → S * (c * c) < (R + 1) * (R + 1)
    → nat_eq (R * R) (S * (c * c)) ≡ b → o ≡ cond b 0 1 → Root S d c (2 * R + o)
root_at S d c R o b p h l g k e q =
    let a : d * c ≤ R = at_least S d c R h k in
    let f : R < (d + 1) * c = below S d c R p l g in
    let i : o ≤ 1 = omega (arith, q, one_more b) in
    let v : d * (2 * c) + (2 * (R - d * c) + o) ≡ 2 * R + o = omega (arith, a) in
    let w : 2 * (R - d * c) + o < 2 * c = omega (arith, a, f, i) in
    record { rest = 2 * (R - d * c) + o; value = v; low = w; test = tests b e q a }
  where
    tests : (b : Bool) → nat_eq (R * R) (S * (c * c)) ≡ b → o ≡ cond b 0 1 → d * c ≤ R
        → not (nat_eq (d * d) S) ≡ nat_lt 0 (2 * (R - d * c) + o)
    tests true e q a =
        let n : R * R ≡ S * (c * c) = eqb-true (R * R) (S * (c * c)) e in
        elim (cases_lt 0 (R - d * c)) [
          | inl y ↦ ap not (ne_eqb (d * d) S (λ z. let r : R ≡ d * c = same_root S d c R z a g in absurd (omega (arith, r, y))))
              ∙ sym (lt-ltb 0 _ (omega (arith, y)))
          | inr y ↦
              let r : R ≡ d * c = omega (arith, y, a) in
              let s : R * R ≡ d * c * (d * c) = ap (λ (z : ℕ). z * z) r in
              let t : d * d ≡ S = eq_of_mul-eq-mul_right (c * c) (mul-pos p p) (d * d) S (omega (arith, n, s)) in
              ap not (eq-eqb (d * d) S t) ∙ sym (le-ltb 0 _ (omega (arith, y, q)))
        ]
    tests false e q a =
        ap not (ne_eqb (d * d) S (λ z.
        let r : R ≡ d * c = same_root S d c R z a g in
        let s : R * R ≡ d * c * (d * c) = ap (λ (u : ℕ). u * u) r in
        let t : d * d * (c * c) ≡ S * (c * c) = ap (λ (u : ℕ). u * (c * c)) z in
        let n : R * R ≡ S * (c * c) = omega (arith, s, t) in
        absurd (true≢false (sym (eq-eqb (R * R) (S * (c * c)) n) ∙ e))))
        ∙ sym (lt-ltb 0 _ (omega (arith, q)))

-- ---- in the terms of a value

pub rooted_encloses : (f : Format) (x : Float) (p : Scaled) (s d : ℕ) → IsMagnitude f x p → s < 128 → (p.place + 7118 - s) % 2 ≡ 0
    → d * d ≤ p.digits * 2 ^ s
    → p.digits * 2 ^ s < (d + 1) * (d + 1)
    → Encloses (exact_root x) (record { digits = d; place = (p.place + 7118 - s) / 2; goes_on = not (nat_eq (d * d) (p.digits * 2 ^ s)) })
rooted_encloses f x p s d h l e a b =
    let i = p.place in
    let S = p.digits * 2 ^ s in
    let j = (i + 3468 - s) / 2 in
    let c = 2 ^ j in
    let N = num x * 2 ^ 4542 / den x in
    let m : i + 3468 - s ≡ j + j = omega (arith, l, e) in
    let cc : 2 ^ (i + 3468 - s) ≡ c * c = ap (λ (z : ℕ). 2 ^ z) m ∙ pow-add 2 j j in
    let v : p.digits * 2 ^ (i + 3468) ≡ S * (c * c) =
    sym (power_split p.digits s (i + 3468) (omega (arith, l))) ∙ ap (λ (z : ℕ). p.digits * z * 2 ^ s) cc
    ∙ (let k : p.digits * (c * c) * 2 ^ s ≡ S * (c * c) = omega arith in k)
    in
    let w : num x * 2 ^ 4542 ≡ S * (c * c) * den x =
    ap (λ (z : ℕ). num x * z) (pow-add 2 1074 3468)
    ∙ times (num x) (2 ^ 1074) (p.digits * 2 ^ i) (den x) (2 ^ 3468) h.value
    ∙ regroup p.digits (2 ^ i) (2 ^ 3468) (den x)
    ∙ ap (λ (z : ℕ). p.digits * z * den x) (sym (pow-add 2 i 3468))
    ∙ ap (λ (z : ℕ). z * den x) v
    in
    let n : N ≡ S * (c * c) = ap (λ (z : ℕ). z / den x) w ∙ mul-div_cancel (S * (c * c)) (den_pos x) in
    let R = root_below (size N) N in
    let r = whole_part N in
    let o = cond (nat_eq (R * R) N) 0 1 in
    let g : R * R ≤ S * (c * c) = omega (arith, r.0, n) in
    let k : S * (c * c) < (R + 1) * (R + 1) = omega (arith, r.1, n) in
    let t = root_at S d c R o (nat_eq (R * R) (S * (c * c))) (pow_pos j) a b g k refl (ap (λ (z : ℕ). cond (nat_eq (R * R) z) 0 1) n) in
    let q = (i + 7118 - s) / 2 in
    let W = 2 ^ 2272 * 2 ^ q in
    let u = 2 ^ 4096 in
    let y : q ≡ j + 1825 = omega (arith, l, e) in
    let wv : W ≡ 2 * c * u =
    sym (pow-add 2 2272 q)
    ∙ ap (λ (z : ℕ). 2 ^ z) (let z : 2272 + q ≡ 1 + j + 4096 = omega (arith, y) in z)
    ∙ pow-add 2 (1 + j) 4096
    ∙ ap (λ (z : ℕ). z * u) (pow-add 2 1 j)
    in
    let X = root_twice N * u in
    let xv : d * W + t.rest * u ≡ X =
    ap (λ (z : ℕ). d * z + t.rest * u) wv ∙ parts d (2 * c) t.rest (2 * R + o) u t.value ∙ ap (λ (z : ℕ). z * u) (sym (twice_is N)) in
    let low : t.rest * u < 2 * c * u = mul-lt-mul_of_pos_right t.low (pow_pos 4096) in
    let o' : t.rest * u < W = omega (arith, low, wv) in
    record {
      nonzero = pow_pos 2272;
      whole = sym (sym (ap (λ (z : ℕ). z / W) xv) ∙ digits_div d o');
      rest = t.test ∙ above t.rest u (pow_pos 4096) ∙ ap (λ (z : ℕ). nat_lt 0 z) (sym (sym (ap (λ (z : ℕ). z % W) xv) ∙ digits_mod d o'));
    }
  where
    times : (a u n c v : ℕ) → a * u ≡ n * c → a * (u * v) ≡ n * v * c
    times a u n c v e = omega (arith, ap (λ (z : ℕ). z * v) e)

    parts : (d c r t u : ℕ) → d * c + r ≡ t → d * (c * u) + r * u ≡ t * u
    parts d c r t u e = omega (arith, ap (λ (z : ℕ). z * u) e)

    above : (t v : ℕ) → 0 < v → nat_lt 0 t ≡ nat_lt 0 (t * v)
    above t v h = lt_times 0 t v h ∙ ap (λ (z : ℕ). nat_lt z (t * v)) (zero-mul v)

    regroup : (d p v c : ℕ) → d * p * v * c ≡ d * (p * v) * c
    regroup d p v c = omega arith
