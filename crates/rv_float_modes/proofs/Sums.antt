-- Sums of magnitudes, exact and far apart.
use Rattle.std.proofs.Common.{◌≡◌, ℕ, suc, ◌+◌, ◌-◌, ◌*◌, ◌/◌, ◌%◌, ◌^◌, ◌<◌, ◌≤◌, Bool, true, false, ◌&&◌, if◌then◌else◌, nat_lt, sym, ap}
use Rattle.std.proofs.Common.{◌∙◌, subst, refl, arith, inl, inr}
use Rattle.std.proofs.Math.Nat.{div-add-mod', eq-zero-or-pos, mod-eq_of_lt, mul-le-mul_left, mul-le-mul_right, mul-lt-mul_of_pos_right}
use Rattle.std.proofs.Math.Nat.{mul-pos, zero-mul}
use Rattle.std.proofs.Math.Pow.{pow_mono}
use Rattle.std.proofs.Math.Arith.{digits_div, digits_mod}
use Rattle.std.proofs.lemmas.Bool.{cases_lt, le-ltb, lt-ltb, true≢false}
use Rattle.std.proofs.lemmas.Nat.{leading_top, mod_below, pow-add, pow_pos}
use Rattle.std.specs.Int.{abs_diff}
use Rattle.rv_float_flags.specs.Exact.{Ratio, combined, exact_sum}
use Rattle.rv_float_flags.specs.Scaled.{amount, IsFraction, IsMagnitude}
use Rattle.rv_float_flags.proofs.Numbers.{lt_times, power_split}
use Rattle.rv_float_flags.proofs.Numbers.{combined_times}
use Rattle.rv_floats.specs.declared.rounding.Rounding.{Rounding}
use Rattle.rv_float_modes.specs.Enclosed.{Encloses, IsNumber}
use Rattle.rv_float_modes.specs.Modes.{rounding_in}
use Rattle.rv_float_modes.specs.Operations.{add_in, either, is_down, sign_of_sum, sub_in, sum_in}
use Rattle.rv_float_modes.specs.declared.rounded.Rounded.{Rounded}
use Rattle.rv_floats.specs.Signs.{sign_negated}
use Rattle.rv_float_flags.specs.Operations.{add_flags}
use Rattle.rv_float_flags.specs.declared.flags.Flags.{Flags}
use Rattle.rv_float_flags.specs.declared.scaled.Scaled.{Scaled}
use Rattle.rv_float_flags.proofs.Fractions.{raised_amount, sum_fraction}
use Rattle.rv_float_flags.proofs.Negated.{same_unlike, sub_by_add}
use Rattle.rv_floats.proofs.Signs.{of_negated}
use Rattle.std.specs.Float.{float_is_finite, is_sign_negative}
use Rattle.rv_float_modes.proofs.Exactly.{number_of_fraction}
use lib.Ieee.{Float, Format, nan, inf, fin, add, neg, of_bits, sub, to_bits, unlike}
use lib.Ieee.Positive.{den, den_pos, num}
use lib.Count.{count_leading_zeros}

-- ---- a multiple of 2 ^ -2148 that is d whole multiples of 2 ^ p and a rest

pub enclosed : (r : Ratio) (N d p t : ℕ) (g : Bool) → IsFraction r N 1 → N ≡ d * 2 ^ p + t → t < 2 ^ p → g ≡ nat_lt 0 t
    → Encloses r (record { digits = d; place = p + 1948; goes_on = g })
enclosed r N d p t g h e l k =
    let c = r.denominator in
    let v = 2 ^ 1948 in
    let W = c * 2 ^ (p + 1948) in
    let V = v * c in
    let vp : 0 < V = mul-pos (pow_pos 1948) h.nonzero in
    let w : W ≡ 2 ^ p * V = ap (λ (z : ℕ). c * z) (pow-add 2 p 1948) ∙ regroup c (2 ^ p) v in
    let x : r.numerator * 2 ^ 4096 ≡ N * V = times r.numerator (2 ^ 2148) N c v (2 ^ 4096) (pow-add 2 2148 1948) h.value in
    let y : d * W + t * V ≡ r.numerator * 2 ^ 4096 = ap (λ (z : ℕ). d * z + t * V) w ∙ sum d (2 ^ p) t V N e ∙ sym x in
    let o : t * V < W = subst (λ (z : ℕ). t * V < z) (sym w) (mul-lt-mul_of_pos_right l vp) in
    record {
      nonzero = h.nonzero;
      whole = sym (sym (ap (λ (z : ℕ). z / W) y) ∙ digits_div d o);
      rest = k ∙ above t V vp ∙ ap (λ (z : ℕ). nat_lt 0 z) (sym (sym (ap (λ (z : ℕ). z % W) y) ∙ digits_mod d o));
    }
  where
    regroup : (c p v : ℕ) → c * (p * v) ≡ p * (v * c)
    regroup c p v = omega arith

    times : (a u n c v w : ℕ) → w ≡ u * v → a * u * 1 ≡ n * c → a * w ≡ n * (v * c)
    times a u n c v w q e = ap (λ (z : ℕ). a * z) q ∙ (let k : a * (u * v) ≡ n * (v * c) = omega (arith, ap (λ (z : ℕ). z * v) e) in k)

    sum : (d p t v n : ℕ) → n ≡ d * p + t → d * (p * v) + t * v ≡ n * v
    sum d p t v n e = omega (arith, ap (λ (z : ℕ). z * v) e)

    above : (t v : ℕ) → 0 < v → nat_lt 0 t ≡ nat_lt 0 (t * v)
    above t v h = lt_times 0 t v h ∙ ap (λ (z : ℕ). nat_lt z (t * v)) (zero-mul v)

-- ---- digits that are far above others, moved up to 2 ^ 119 at least

pub record Raised (D i h s : ℕ) : Type 0 where
  pub room : 8 ≤ count_leading_zeros 128 D
  pub below : i < h - s
  pub under : s ≤ h
  pub little : s < 128
  pub whole : D * 2 ^ s % 2 ^ 128 ≡ D * 2 ^ s
  pub wide : 2 ^ 119 ≤ D * 2 ^ s
  pub narrow : D * 2 ^ s < 2 ^ 120

nonzero : (D n : ℕ) → 2 ^ 120 ≤ D * 2 ^ n → 0 < D
nonzero D n h =
    elim (eq-zero-or-pos D) [
      | inl z ↦ let k : D * 2 ^ n ≡ 0 = ap (λ (x : ℕ). x * 2 ^ n) z ∙ zero-mul (2 ^ n) in
          absurd (omega (arith, k, h))
      | inr p ↦ p
    ]

pub raised : (D i h : ℕ) → D < 2 ^ 106 → i ≤ h → 2 ^ 120 ≤ D * 2 ^ (h - i) → Raised D i h (count_leading_zeros 128 D - 8)
raised D i h l o f =
    let p : 0 < D = nonzero D (h - i) f in
    let t = leading_top 128 D p (omega (arith, l)) in
    let j = t.0 in
    let z = count_leading_zeros 128 D in
    let e : z + suc j ≡ 128 = t.1 in
    let few : j < 106 =
    elim (cases_lt j 106) [ inl g ↦ g | inr g ↦ let m : 2 ^ 106 ≤ 2 ^ j = pow_mono g in absurd (omega (arith, m, l, t.2)) ] in
    let s = z - 8 in
    let a : 2 ^ j * 2 ^ s ≤ D * 2 ^ s = mul-le-mul_right (2 ^ s) t.2 in
    let b : D * 2 ^ s < 2 ^ suc j * 2 ^ s = mul-lt-mul_of_pos_right t.3 (pow_pos s) in
    let c : 2 ^ (j + s) ≡ 2 ^ j * 2 ^ s = pow-add 2 j s in
    let d : 2 ^ (suc j + s) ≡ 2 ^ suc j * 2 ^ s = pow-add 2 (suc j) s in
    let q : 2 ^ (j + s) ≡ 2 ^ 119 = ap (λ (x : ℕ). 2 ^ x) (let q : j + s ≡ 119 = omega (arith, e, few) in q) in
    let g : 2 ^ (suc j + s) ≡ 2 ^ 120 = ap (λ (x : ℕ). 2 ^ x) (let q : suc j + s ≡ 120 = omega (arith, e, few) in q) in
    let n : D * 2 ^ s < 2 ^ 120 = omega (arith, b, d, g) in
    let m : s < h - i =
    elim (cases_lt s (h - i)) [
      | inl y ↦ y
      | inr y ↦ let x : D * 2 ^ (h - i) ≤ D * 2 ^ s = mul-le-mul_left D (pow_mono y) in
          absurd (omega (arith, x, n, f))
    ] in
    record {
      room = omega (arith, e, few);
      below = omega (arith, m, o);
      under = omega (arith, m, o);
      little = omega (arith, e);
      whole = mod-eq_of_lt (let q : D * 2 ^ s < 2 ^ 128 = omega (arith, n) in q);
      wide = omega (arith, a, c, q);
      narrow = n;
    }

-- ---- their sum with a, of which w whole multiples of 2 ^ p are at or above the place p = h - s

high_amount : (D h s : ℕ) → s ≤ h → D * 2 ^ s * 2 ^ (h - s) ≡ D * 2 ^ h
high_amount D h s l = let e : D * 2 ^ (h - s) * 2 ^ s ≡ D * 2 ^ h = power_split D s h l in omega (arith, e)

low_amount : (A u w : ℕ) → 0 < u → w ≡ A / u → w * u + A % u ≡ A
low_amount A u w h e = ap (λ (z : ℕ). z * u + A % u) e ∙ div-add-mod' A u

pub far_plus : (r : Ratio) (o : Bool) (A D h s w : ℕ) (g : Bool) → IsFraction r (combined o A (D * 2 ^ h)) 1 → s ≤ h → o ≡ false
    → w ≡ A / 2 ^ (h - s)
    → g ≡ nat_lt 0 (A % 2 ^ (h - s)) → Encloses r (record { digits = D * 2 ^ s + w; place = h - s + 1948; goes_on = g })
far_plus r o A D h s w g f l e q k =
    let u = 2 ^ (h - s) in
    let a : w * u + A % u ≡ A = low_amount A u w (pow_pos (h - s)) q in
    let b : D * 2 ^ s * u ≡ D * 2 ^ h = high_amount D h s l in
    enclosed r (combined o A (D * 2 ^ h)) (D * 2 ^ s + w) (h - s) (A % u) g f
    (ap (λ (z : Bool). combined z A (D * 2 ^ h)) e ∙ (let x : A + D * 2 ^ h ≡ (D * 2 ^ s + w) * u + A % u = omega (arith, a, b) in x))
    (mod_below A u (pow_pos (h - s))) k

difference : (A H M w u t : ℕ) → w * u + t ≡ A → M * u ≡ H → w < M → t ≡ 0 → abs_diff A H ≡ (M - w) * u + t
difference A H M w u t a b l z =
    let e : M - w + w ≡ M = omega (arith, l) in
    let f : (M - w) * u + w * u ≡ M * u = omega (arith, ap (λ (x : ℕ). x * u) e) in
    omega (arith, a, b, f, z)

difference_less : (A H M w u t : ℕ) → w * u + t ≡ A → M * u ≡ H → w < M → 0 < t → t < u → abs_diff A H ≡ (M - w - 1) * u + (u - t)
difference_less A H M w u t a b l p o =
    let e : M - w - 1 + w + 1 ≡ M = omega (arith, l) in
    let f : (M - w - 1) * u + w * u + u ≡ M * u = omega (arith, ap (λ (x : ℕ). x * u) e) in
    omega (arith, a, b, f, p, o)

pub far_minus : (r : Ratio) (o : Bool) (A D h s w : ℕ) (g : Bool) → IsFraction r (combined o A (D * 2 ^ h)) 1 → s ≤ h → o ≡ true
    → w ≡ A / 2 ^ (h - s)
    → w < D * 2 ^ s → g ≡ nat_lt 0 (A % 2 ^ (h - s)) → g ≡ false
    → Encloses r (record { digits = D * 2 ^ s - w; place = h - s + 1948; goes_on = g })
far_minus r o A D h s w g f l e q m k i =
    let u = 2 ^ (h - s) in
    let a : w * u + A % u ≡ A = low_amount A u w (pow_pos (h - s)) q in
    let b : D * 2 ^ s * u ≡ D * 2 ^ h = high_amount D h s l in
    let t : A % u ≡ 0 = none (A % u) (sym k ∙ i) in
    enclosed r (combined o A (D * 2 ^ h)) (D * 2 ^ s - w) (h - s) (A % u) g f
    (ap (λ (z : Bool). combined z A (D * 2 ^ h)) e ∙ difference A (D * 2 ^ h) (D * 2 ^ s) w u (A % u) a b m t)
    (mod_below A u (pow_pos (h - s))) k
  where
    none : (t : ℕ) → nat_lt 0 t ≡ false → t ≡ 0
    none t e = elim (eq-zero-or-pos t) [ inl z ↦ z | inr p ↦ absurd (true≢false (sym (lt-ltb 0 t p) ∙ e)) ]

pub far_less : (r : Ratio) (o : Bool) (A D h s w : ℕ) (g : Bool) → IsFraction r (combined o A (D * 2 ^ h)) 1 → s ≤ h → o ≡ true
    → w ≡ A / 2 ^ (h - s)
    → w < D * 2 ^ s → g ≡ nat_lt 0 (A % 2 ^ (h - s)) → g ≡ true
    → Encloses r (record { digits = D * 2 ^ s - w - 1; place = h - s + 1948; goes_on = g })
far_less r o A D h s w g f l e q m k i =
    let u = 2 ^ (h - s) in
    let a : w * u + A % u ≡ A = low_amount A u w (pow_pos (h - s)) q in
    let b : D * 2 ^ s * u ≡ D * 2 ^ h = high_amount D h s l in
    let t : 0 < A % u = some (A % u) (sym k ∙ i) in
    let v : A % u < u = mod_below A u (pow_pos (h - s)) in
    let c : 0 < u - A % u = omega (arith, v) in
    enclosed r (combined o A (D * 2 ^ h)) (D * 2 ^ s - w - 1) (h - s) (u - A % u) g f
    (ap (λ (z : Bool). combined z A (D * 2 ^ h)) e ∙ difference_less A (D * 2 ^ h) (D * 2 ^ s) w u (A % u) a b m t v)
    (omega (arith, t, v)) (i ∙ sym (lt-ltb 0 (u - A % u) c))
  where
    some : (t : ℕ) → nat_lt 0 t ≡ true → 0 < t
    some t e = elim (eq-zero-or-pos t) [ inr p ↦ p | inl z ↦ absurd (true≢false (sym e ∙ le-ltb 0 t (omega (arith, z)))) ]

-- ---- sums that are near

pub near : (r : Ratio) (o : Bool) (a i v D h n : ℕ) → IsFraction r (combined o (a * 2 ^ i) (D * 2 ^ h)) 1 → i ≤ h → v ≡ D * 2 ^ (h - i)
    → n ≡ combined o a v
    → IsNumber r n (i + 1948)
near r o a i v D h n f l e k =
    let b : v * 2 ^ i ≡ D * 2 ^ h = ap (λ (z : ℕ). z * 2 ^ i) e ∙ power_split D i h l in
    number_of_fraction r (combined o (a * 2 ^ i) (D * 2 ^ h)) n i f
    (ap (λ (z : ℕ). combined o (a * 2 ^ i) z) (sym b) ∙ combined_times o a v (2 ^ i) ∙ ap (λ (z : ℕ). z * 2 ^ i) (sym k))

-- ---- the sign, by magnitudes that are in proportion

cross_lt : (a b A B u d : ℕ) → 0 < u → 0 < d → a * u ≡ A * d → b * u ≡ B * d → nat_lt A B ≡ nat_lt a b
cross_lt a b A B u d h p e k =
    lt_times A B d p ∙ ap (λ (z : ℕ). nat_lt z (B * d)) (sym e) ∙ ap (λ (z : ℕ). nat_lt (a * u) z) (sym k) ∙ sym (lt_times a b u h)

pub same_signs : (mode : Rounding) (s t s' t' : Bool) (a b A B u d : ℕ) → s ≡ s' → t ≡ t' → 0 < u → 0 < d → a * u ≡ A * d → b * u ≡ B * d
    → sign_of_sum mode s t A B ≡ sign_of_sum mode s' t' a b
same_signs mode s t s' t' a b A B u d e k h p g l =
    ap (λ (z : Bool). sign_of_sum mode z t A B) e
    ∙ ap (λ (z : Bool). sign_of_sum mode s' z A B) k
    ∙ ap (λ (z : Bool). if unlike s' t' then (if z then t' else if nat_lt B A then s' else is_down mode) else s')
    (cross_lt a b A B u d h p g l)
    ∙ ap (λ (z : Bool). if unlike s' t' then (if nat_lt a b then t' else if z then s' else is_down mode) else s')
    (cross_lt b a B A u d h p l g)

-- ---- the sum of two finite values

pub sum_is : (mode : Rounding) (f : Format) (x y : Float) (p q a b : Scaled) (s t : Bool) (w : Rounded) → IsMagnitude f x p
    → IsMagnitude f y q
    → a ≡ record { digits = p.digits; place = p.place + 1074 } → b ≡ record { digits = q.digits; place = q.place + 1074 }
    → s ≡ is_sign_negative x → t ≡ is_sign_negative y
    → ((r : Ratio) → IsFraction r (combined (unlike s t) (amount a) (amount b)) 1
    → w ≡ rounding_in mode (sign_of_sum mode s t (amount a) (amount b)) f r)
    → w ≡ sum_in mode f x y
sum_is mode f x y p q a b s t w h g ha hb hs ht k =
    let u = 2 ^ 1074 in
    let A = amount p * u in
    let B = amount q * u in
    let r = exact_sum x y in
    let o = unlike (is_sign_negative x) (is_sign_negative y) in
    let ea : amount a ≡ A = raised_amount p a ha in
    let eb : amount b ≡ B = raised_amount q b hb in
    let e : combined o A B ≡ combined (unlike s t) (amount a) (amount b) =
    ap (λ (z : ℕ). combined o z B) (sym ea)
    ∙ ap (λ (z : ℕ). combined o (amount a) z) (sym eb)
    ∙ ap (λ (z : Bool). combined z (amount a) (amount b)) (sym (same_unlike s t (is_sign_negative x) (is_sign_negative y) hs ht))
    in
    let i : num x * den y * (u * u) ≡ amount p * u * (den x * den y) = left (num x) (den x) (den y) (amount p) u h.value in
    let j : num y * den x * (u * u) ≡ amount q * u * (den x * den y) = right (num y) (den y) (den x) (amount q) u g.value in
    let n : sign_of_sum mode s t (amount a) (amount b) ≡ sign_of_sum mode (is_sign_negative x) (is_sign_negative y) (num x * den y)
    (num y * den x) =
    ap (λ (z : ℕ). sign_of_sum mode s t z (amount b)) ea
    ∙ ap (λ (z : ℕ). sign_of_sum mode s t A z) eb
    ∙ same_signs mode s t (is_sign_negative x) (is_sign_negative y) (num x * den y) (num y * den x) A B (u * u) (den x * den y) hs ht
    (mul-pos (pow_pos 1074) (pow_pos 1074)) (mul-pos (den_pos x) (den_pos y)) i j
    in
    k r (subst (λ (z : ℕ). IsFraction r z 1) e (sum_fraction f o x y p q h g)) ∙ ap (λ (z : Bool). rounding_in mode z f r) n
  where
    left : (n c d a u : ℕ) → n * u ≡ a * c → n * d * (u * u) ≡ a * u * (c * d)
    left n c d a u e = omega (arith, ap (λ (z : ℕ). z * (u * d)) e)

    right : (n c d a u : ℕ) → n * u ≡ a * c → n * d * (u * u) ≡ a * u * (d * c)
    right n c d a u e = omega (arith, ap (λ (z : ℕ). z * (u * d)) e)

-- ---- a difference, as a sum

pub negated_finite : (y : Float) → float_is_finite (neg y) ≡ float_is_finite y
unfolding neg float_is_finite
negated_finite nan = refl
negated_finite (inf s) = refl
negated_finite (fin s m e) = refl

subtracted : (f : Format) (x y : Float) → add f x (neg y) ≡ sub f x y
unfolding sub
subtracted f x y = refl

pub sub_by_add_in : (mode : Rounding) (f : Format) (a b : ℕ) → add_in mode f a (sign_negated f b b) ≡ sub_in mode f a b
sub_by_add_in mode f a b =
    let x = of_bits f a in
    let y = of_bits f b in
    ap (λ (z : Float). either (float_is_finite x && float_is_finite z) (sum_in mode f x z) (to_bits f (add f x z))
    (add_flags f a (sign_negated f b b))) (of_negated f b)
    ∙ ap (λ (z : Bool). either (float_is_finite x && z) (sum_in mode f x (neg y)) (to_bits f (add f x (neg y)))
    (add_flags f a (sign_negated f b b))) (negated_finite y)
    ∙ ap (λ (z : Float). either (float_is_finite x && float_is_finite y) (sum_in mode f x (neg y)) (to_bits f z)
    (add_flags f a (sign_negated f b b))) (subtracted f x y)
    ∙ ap (λ (z : Flags). either (float_is_finite x && float_is_finite y) (sum_in mode f x (neg y)) (to_bits f (sub f x y)) z)
    (sub_by_add f a b)
