-- A pattern with its sign bit the other way is that of the value with the other sign.
use Rattle.std.proofs.Common.{◌≡◌, ℕ, zero, suc, ◌+◌, ◌-◌, ◌/◌, ◌%◌, ◌<◌, Bool, true, false, cond, not, ◌&&◌, nat_lt, sym, ap, ◌∙◌, refl}
use Rattle.std.proofs.Common.{arith}
use Rattle.std.proofs.Math.Nat.{add-mod_left, dvd-mul_right, mod-eq_of_lt, mod-mod_of_dvd, mul-pos}
use Rattle.std.proofs.lemmas.Bool.{le-leb, lt-leb, true≢false}
use Rattle.std.proofs.lemmas.Nat.{mod_below, pow_pos}
use Rattle.std.specs.Float.{is_sign_negative}
use Rattle.rv_floats.specs.Classes.{is_signaling}
use Rattle.rv_floats.specs.Signs.{sign, sign_negated, with_sign}
use lib.Dec.{eqb, leb}
use lib.Ieee.{Float, Format, nan, inf, fin, hid, is_nan, low, neg, odd, of_bits, of_fields, ones, prec, top}

pub negative_nan : (x : Float) → is_nan x ≡ true → false ≡ is_sign_negative x
unfolding is_nan is_sign_negative
negative_nan nan h = refl
negative_nan (inf s) h = absurd (true≢false (sym h))
negative_nan (fin s m e) h = absurd (true≢false (sym h))

-- ---- fields with the other sign

neg_odd : (d : ℕ) (s : Bool) (q k l : ℕ) → odd d (not s) q k l ≡ neg (odd d s q k l)
unfolding odd neg
neg_odd d s zero k l = refl
neg_odd d s (suc q) k l = refl

neg_cond : (b c s : Bool) (v w : Float) → v ≡ neg w → cond b (cond c (inf (not s)) nan) v ≡ neg (cond b (cond c (inf s) nan) w)
unfolding neg
neg_cond true true s v w e = refl
neg_cond true false s v w e = refl
neg_cond false c s v w e = e

neg_fields : (f : Format) (s : Bool) (x t : ℕ) → of_fields f (not s) x t ≡ neg (of_fields f s x t)
unfolding of_fields
neg_fields f s zero t = neg_odd (prec f) s t 0 (low f)
neg_fields f s (suc x) t = neg_cond (eqb (suc x) (ones f)) (eqb t 0) s _ _ (neg_odd (prec f) s (hid f + t) x (low f))

bits_of : (f : Format) (b : ℕ) → of_bits f b ≡ of_fields f (leb (top f) b) (b % top f / hid f) (b % hid f)
unfolding of_bits
bits_of f b = refl

-- ---- the bit

top_pos : (f : Format) → 0 < top f
top_pos f = mul-pos (pow_pos (prec f - 1)) (let k : 0 < suc (ones f) = omega arith in k)

flips : (f : Format) (b : ℕ) (s : Bool) → (leb (top f) (with_sign f (not s) b) ≡ not s) × (with_sign f (not s) b % top f ≡ b % top f)
flips f b true =
    let l : b % top f < top f = mod_below b (top f) (top_pos f) in
    let e : 0 + b % top f ≡ b % top f = omega arith in
    (lt-leb (top f) (0 + b % top f) (omega (arith, l)), ap (λ (x : ℕ). x % top f) e ∙ mod-eq_of_lt l)
flips f b false =
    let l : b % top f < top f = mod_below b (top f) (top_pos f) in
    (le-leb (top f) (top f + b % top f) (omega arith), add-mod_left (top f) (b % top f) ∙ mod-eq_of_lt l)

low_digits : (f : Format) (b : ℕ) → b % top f % hid f ≡ b % hid f
low_digits f b = mod-mod_of_dvd (hid f) b (dvd-mul_right (hid f) (suc (ones f)))

same_digits : (f : Format) (b : ℕ) → sign_negated f b b % hid f ≡ b % hid f
same_digits f b = sym (low_digits f (sign_negated f b b)) ∙ ap (λ (x : ℕ). x % hid f) (flips f b (sign f b)).1 ∙ low_digits f b

pub of_negated : (f : Format) (b : ℕ) → of_bits f (sign_negated f b b) ≡ neg (of_bits f b)
of_negated f b =
    let s = sign f b in
    let c = sign_negated f b b in
    let e = flips f b s in
    bits_of f c
    ∙ ap (λ (x : Bool). of_fields f x (c % top f / hid f) (c % hid f)) e.0
    ∙ ap (λ (x : ℕ). of_fields f (not s) (x / hid f) (c % hid f)) e.1
    ∙ ap (λ (x : ℕ). of_fields f (not s) (b % top f / hid f) x) (same_digits f b)
    ∙ neg_fields f s (b % top f / hid f) (b % hid f)
    ∙ ap neg (sym (bits_of f b))

nan_negated : (x : Float) → is_nan (neg x) ≡ is_nan x
unfolding is_nan neg
nan_negated nan = refl
nan_negated (inf s) = refl
nan_negated (fin s m e) = refl

pub signaling_negated : (f : Format) (b : ℕ) → is_signaling f (sign_negated f b b) ≡ is_signaling f b
signaling_negated f b =
    ap (λ (x : ℕ). is_nan (of_bits f (sign_negated f b b)) && nat_lt x (hid f / 2)) (same_digits f b)
    ∙ ap (λ (x : Bool). x && nat_lt (b % hid f) (hid f / 2)) (ap is_nan (of_negated f b) ∙ nan_negated (of_bits f b))
