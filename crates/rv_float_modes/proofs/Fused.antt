-- The fused multiply-adds.
use Rattle.std.proofs.Common.{◌≡◌, ℕ, ◌+◌, ◌*◌, ◌^◌, Bool, ◌&&◌, sym, ap, ◌∙◌, subst, arith}
use Rattle.std.proofs.Math.Nat.{mul-pos}
use Rattle.std.proofs.lemmas.Nat.{pow_pos}
use Rattle.std.specs.Float.{float_is_finite, is_sign_negative}
use Rattle.rv_floats.specs.Fused.{multiply_add}
use Rattle.rv_floats.specs.Signs.{sign_negated}
use Rattle.rv_floats.specs.declared.rounding.Rounding.{Rounding}
use Rattle.rv_float_flags.specs.Exact.{Ratio, combined, exact_fused}
use Rattle.rv_float_flags.specs.Operations.{multiply_add_flags}
use Rattle.rv_float_flags.specs.Scaled.{amount, IsFraction, IsMagnitude}
use Rattle.rv_float_flags.specs.declared.flags.Flags.{Flags}
use Rattle.rv_float_flags.specs.declared.scaled.Scaled.{Scaled}
use Rattle.rv_float_flags.proofs.Fractions.{fused_fraction, product_amount, raised_amount}
use Rattle.rv_float_flags.proofs.Negated.{both_by_add, negated_by_add, same_unlike, subtract_by_add}
use Rattle.rv_floats.proofs.Signs.{of_negated}
use Rattle.rv_float_modes.specs.Modes.{rounding_in}
use Rattle.rv_float_modes.specs.Operations.{either, fused_in, multiply_add_in, multiply_subtract_in, negated_multiply_add_in}
use Rattle.rv_float_modes.specs.Operations.{negated_multiply_subtract_in, sign_of_sum}
use Rattle.rv_float_modes.specs.declared.rounded.Rounded.{Rounded}
use Rattle.rv_float_modes.proofs.Sums.{negated_finite, same_signs}
use lib.Ieee.{Float, Format, neg, of_bits, to_bits, unlike}
use lib.Ieee.Positive.{den, den_pos, num}

pub fused_is : (mode : Rounding) (f : Format) (x y z : Float) (p q i a b : Scaled) (s t : Bool) (w : Rounded) → IsMagnitude f x p
    → IsMagnitude f y q
    → IsMagnitude f z i → a ≡ record { digits = p.digits * q.digits; place = p.place + q.place }
    → b ≡ record { digits = i.digits; place = i.place + 1074 }
    → s ≡ unlike (is_sign_negative x) (is_sign_negative y) → t ≡ is_sign_negative z
    → ((r : Ratio) → IsFraction r (combined (unlike s t) (amount a) (amount b)) 1
    → w ≡ rounding_in mode (sign_of_sum mode s t (amount a) (amount b)) f r)
    → w ≡ fused_in mode f x y z
fused_is mode f x y z p q i a b s t w h g k ha hb hs ht o =
    let u = 2 ^ 1074 in
    let A = amount p * amount q in
    let B = amount i * u in
    let r = exact_fused x y z in
    let s' = unlike (is_sign_negative x) (is_sign_negative y) in
    let t' = is_sign_negative z in
    let ea : amount a ≡ A = product_amount p q a ha in
    let eb : amount b ≡ B = raised_amount i b hb in
    let e : combined (unlike s' t') A B ≡ combined (unlike s t) (amount a) (amount b) =
    ap (λ (n : ℕ). combined (unlike s' t') n B) (sym ea)
    ∙ ap (λ (n : ℕ). combined (unlike s' t') (amount a) n) (sym eb)
    ∙ ap (λ (n : Bool). combined n (amount a) (amount b)) (sym (same_unlike s t s' t' hs ht))
    in
    let l : num x * num y * den z * (u * u) ≡ A * (den x * den y * den z) =
    left (num x) (num y) (den x) (den y) (den z) (amount p) (amount q) u h.value g.value in
    let m : num z * (den x * den y) * (u * u) ≡ B * (den x * den y * den z) = right (num z) (den x) (den y) (den z) (amount i) u k.value in
    let n : sign_of_sum mode s t (amount a) (amount b) ≡ sign_of_sum mode s' t' (num x * num y * den z) (num z * (den x * den y)) =
    ap (λ (j : ℕ). sign_of_sum mode s t j (amount b)) ea
    ∙ ap (λ (j : ℕ). sign_of_sum mode s t A j) eb
    ∙ same_signs mode s t s' t' (num x * num y * den z) (num z * (den x * den y)) A B (u * u) (den x * den y * den z) hs ht
    (mul-pos (pow_pos 1074) (pow_pos 1074)) (mul-pos (mul-pos (den_pos x) (den_pos y)) (den_pos z)) l m
    in
    o r (subst (λ (j : ℕ). IsFraction r j 1) e (fused_fraction f (unlike s' t') x y z p q i h g k))
    ∙ ap (λ (j : Bool). rounding_in mode j f r) n
  where
    left : (n m c d b a k u : ℕ) → n * u ≡ a * c → m * u ≡ k * d → n * m * b * (u * u) ≡ a * k * (c * d * b)
    left n m c d b a k u e f = omega (arith, ap (λ (z : ℕ). z * (m * u * b)) e, ap (λ (z : ℕ). z * (a * c * b)) f)

    right : (n c d b a u : ℕ) → n * u ≡ a * b → n * (c * d) * (u * u) ≡ a * u * (c * d * b)
    right n c d b a u e = omega (arith, ap (λ (z : ℕ). z * (u * c * d)) e)

-- ---- with a negated pattern

pub subtract_in : (mode : Rounding) (f : Format) (a b c : ℕ)
    → multiply_add_in mode f a b (sign_negated f c c) ≡ multiply_subtract_in mode f a b c
subtract_in mode f a b c =
    let x = of_bits f a in
    let y = of_bits f b in
    let z = of_bits f c in
    let g = multiply_add_flags f a b (sign_negated f c c) in
    let p = float_is_finite x && float_is_finite y in
    ap (λ (v : Float). either (p && float_is_finite v) (fused_in mode f x y v) (to_bits f (multiply_add f x y v)) g) (of_negated f c)
    ∙ ap (λ (v : Bool). either (p && v) (fused_in mode f x y (neg z)) (to_bits f (multiply_add f x y (neg z))) g) (negated_finite z)
    ∙ ap (λ (v : Flags). either (p && float_is_finite z) (fused_in mode f x y (neg z)) (to_bits f (multiply_add f x y (neg z))) v)
    (subtract_by_add f a b c)

pub negated_in : (mode : Rounding) (f : Format) (a b c : ℕ)
    → multiply_add_in mode f (sign_negated f a a) b c ≡ negated_multiply_subtract_in mode f a b c
negated_in mode f a b c =
    let x = of_bits f a in
    let y = of_bits f b in
    let z = of_bits f c in
    let g = multiply_add_flags f (sign_negated f a a) b c in
    ap (λ (v : Float). either (float_is_finite v && float_is_finite y && float_is_finite z) (fused_in mode f v y z)
    (to_bits f (multiply_add f v y z)) g) (of_negated f a)
    ∙ ap (λ (v : Bool). either (v && float_is_finite y && float_is_finite z) (fused_in mode f (neg x) y z)
    (to_bits f (multiply_add f (neg x) y z)) g) (negated_finite x)
    ∙ ap (λ (v : Flags). either (float_is_finite x && float_is_finite y && float_is_finite z) (fused_in mode f (neg x) y z)
    (to_bits f (multiply_add f (neg x) y z)) v) (negated_by_add f a b c)

pub both_in : (mode : Rounding) (f : Format) (a b c : ℕ)
    → multiply_add_in mode f (sign_negated f a a) b (sign_negated f c c) ≡ negated_multiply_add_in mode f a b c
both_in mode f a b c =
    let x = of_bits f a in
    let y = of_bits f b in
    let z = of_bits f c in
    let u = of_bits f (sign_negated f c c) in
    let g = multiply_add_flags f (sign_negated f a a) b (sign_negated f c c) in
    ap (λ (v : Float). either (float_is_finite v && float_is_finite y && float_is_finite u) (fused_in mode f v y u)
    (to_bits f (multiply_add f v y u)) g) (of_negated f a)
    ∙ ap (λ (v : Bool). either (v && float_is_finite y && float_is_finite u) (fused_in mode f (neg x) y u)
    (to_bits f (multiply_add f (neg x) y u)) g) (negated_finite x)
    ∙ ap (λ (v : Float). either (float_is_finite x && float_is_finite y && float_is_finite v) (fused_in mode f (neg x) y v)
    (to_bits f (multiply_add f (neg x) y v)) g) (of_negated f c)
    ∙ ap (λ (v : Bool). either (float_is_finite x && float_is_finite y && v) (fused_in mode f (neg x) y (neg z))
    (to_bits f (multiply_add f (neg x) y (neg z))) g) (negated_finite z)
    ∙ ap (λ (v : Flags). either (float_is_finite x && float_is_finite y && float_is_finite z) (fused_in mode f (neg x) y (neg z))
    (to_bits f (multiply_add f (neg x) y (neg z))) v) (both_by_add f a b c)
