-- The magnitude of a pattern: its digits, at the place of its exponent.
use Rattle.std.proofs.Common.{◌≡◌, ℕ, zero, suc, ◌+◌, ◌-◌, ◌*◌, ◌/◌, ◌%◌, ◌^◌, ◌<◌, Bool, true, false, cond, sym, ap, ◌∙◌, subst, refl}
use Rattle.std.proofs.Common.{arith}
use Rattle.std.proofs.lemmas.Bool.{cond-true, cond-false, eq-eqb, ne_eqb}
use Rattle.std.proofs.lemmas.Nat.{pow-add}
use Rattle.std.specs.Float.{float_is_finite}
use Rattle.rv_float_flags.specs.Scaled.{IsMagnitude}
use Rattle.rv_float_flags.specs.declared.scaled.Scaled.{Scaled}
use lib.Dec.{eqb, leb}
use lib.Ieee.{Float, Format, nan, inf, fin, binary32, binary64, emax, hid, low, odd, of_bits, of_fields, ones, prec, top}
use lib.Ieee.Exact.{HasValue, odd_sign}
use lib.Ieee.Positive.{num, den}

-- ---- the value of digits at a place

pub odd-finite : (d : ℕ) (s : Bool) (q k l : ℕ) → float_is_finite (odd d s q k l) ≡ true
unfolding odd float_is_finite
odd-finite d s zero k l = refl
odd-finite d s (suc q) k l = refl

value : (x : Float) (s : Bool) (a c : ℕ) → HasValue x s a c → num x * c ≡ a * den x
value nan s a c h = absurd h
value (inf t) s a c h = absurd h
value (fin t m e) s a c h = h.1

-- in units of 2 ^ -1074, for a format whose smallest value is 2 ^ j of them
scaled : (x : Float) (q k l j u : ℕ) → l + j ≡ u → num x * 2 ^ l ≡ q * 2 ^ k * den x → num x * 2 ^ u ≡ q * 2 ^ (k + j) * den x
scaled x q k l j u e h =
    let a : 2 ^ u ≡ 2 ^ l * 2 ^ j = ap (λ (z : ℕ). 2 ^ z) (sym e) ∙ pow-add 2 l j in
    let b : 2 ^ (k + j) ≡ 2 ^ k * 2 ^ j = pow-add 2 k j in
    ap (λ (z : ℕ). num x * z) a ∙ omega (arith, ap (λ (z : ℕ). z * 2 ^ j) h) ∙ ap (λ (z : ℕ). q * z * den x) (sym b)

-- ---- the fields of a pattern

at_zero : (f : Format) (s : Bool) (t : ℕ) → of_fields f s 0 t ≡ odd (prec f) s t 0 (low f)
unfolding of_fields
at_zero f s t = refl

under_ones : (f : Format) (s : Bool) (x t : ℕ) → (suc x ≡ ones f → ⊥) → of_fields f s (suc x) t ≡ odd (prec f) s (hid f + t) x (low f)
unfolding of_fields
under_ones f s x t h =
    cond-false (eqb (suc x) (ones f)) (cond (eqb t 0) (inf s) nan) (odd (prec f) s (hid f + t) x (low f)) (ne_eqb (suc x) (ones f) h)

not_finite : (b s : Bool) → float_is_finite (cond b (inf s) nan) ≡ false
unfolding float_is_finite
not_finite true s = refl
not_finite false s = refl

at_ones : (f : Format) (s : Bool) (x t : ℕ) → suc x ≡ ones f → float_is_finite (of_fields f s (suc x) t) ≡ false
unfolding of_fields
at_ones f s x t h =
    ap float_is_finite
    (cond-true (eqb (suc x) (ones f)) (cond (eqb t 0) (inf s) nan) (odd (prec f) s (hid f + t) x (low f)) (eq-eqb (suc x) (ones f) h))
    ∙ not_finite (eqb t 0) s

fields_of : (f : Format) (b x : ℕ) → b % top f / hid f ≡ x → of_bits f b ≡ of_fields f (leb (top f) b) x (b % hid f)
unfolding of_bits
fields_of f b x e = ap (λ (z : ℕ). of_fields f (leb (top f) b) z (b % hid f)) e

-- ---- a pattern: not finite, subnormal or zero, normal

pub no_magnitude : (f : Format) (b x : ℕ) → b % top f / hid f ≡ suc x → suc x ≡ ones f → float_is_finite (of_bits f b) ≡ false
no_magnitude f b x e h = ap float_is_finite (fields_of f b (suc x) e) ∙ at_ones f (leb (top f) b) x (b % hid f) h

digits_at : (f : Format) (v : Float) (s : Bool) (q k j : ℕ) (p : Scaled) → v ≡ odd (prec f) s q k (low f) → low f + j ≡ 1074
    → p.digits ≡ q → p.place ≡ k + j → q < 2 ^ prec f → k + j < 2046 → IsMagnitude f v p
digits_at f v s q k j p e l d g n h =
    let w : num v * 2 ^ low f ≡ q * 2 ^ k * den v =
    subst (λ (x : Float). num x * 2 ^ low f ≡ q * 2 ^ k * den x) (sym e)
    (value (odd (prec f) s q k (low f)) s (q * 2 ^ k) (2 ^ low f) (odd_sign (prec f) s q k (low f)))
    in
    record {
      finite = ap float_is_finite e ∙ odd-finite (prec f) s q k (low f);
      value = scaled v q k (low f) j 1074 l w ∙ ap (λ (z : ℕ). z * 2 ^ (k + j) * den v) (sym d)
          ∙ ap (λ (z : ℕ). p.digits * 2 ^ z * den v) (sym g);
      narrow = subst (λ (z : ℕ). z < 2 ^ prec f) (sym d) n;
      coarse = omega (arith, l, g);
      low_place = omega (arith, g, h);
    }

pub subnormal : (f : Format) (b j : ℕ) (p : Scaled) → b % top f / hid f ≡ 0 → low f + j ≡ 1074 → p.digits ≡ b % hid f → p.place ≡ j
    → b % hid f < 2 ^ prec f → j < 2046 → IsMagnitude f (of_bits f b) p
subnormal f b j p e l d g n h =
    let k : p.place ≡ 0 + j = omega (arith, g) in
    digits_at f (of_bits f b) (leb (top f) b) (b % hid f) 0 j p (fields_of f b 0 e ∙ at_zero f (leb (top f) b) (b % hid f)) l d k n
    (omega (arith, h))

pub normal : (f : Format) (b x j : ℕ) (p : Scaled) → b % top f / hid f ≡ suc x → (suc x ≡ ones f → ⊥) → low f + j ≡ 1074
    → p.digits ≡ hid f + b % hid f → p.place ≡ x + j → hid f + b % hid f < 2 ^ prec f → x + j < 2046 → IsMagnitude f (of_bits f b) p
normal f b x j p e o l d g n h =
    digits_at f (of_bits f b) (leb (top f) b) (hid f + b % hid f) x j p
    (fields_of f b (suc x) e ∙ under_ones f (leb (top f) b) x (b % hid f) o) l d g n h

-- ---- the same, by what the code reads of a format

exponent_read : (f : Format) (b u t h : ℕ) → u ≡ b → t ≡ top f → h ≡ hid f → u % t / h ≡ b % top f / hid f
exponent_read f b u t h pattern sign hidden =
    ap (λ (n : ℕ). n % t / h) pattern ∙ ap (λ (n : ℕ). b % n / h) sign ∙ ap (λ (n : ℕ). b % top f / n) hidden

ones_of : (f : Format) → top f / hid f - 1 ≡ ones f
ones_of binary32 = refl
ones_of binary64 = refl

pub ones_read : (f : Format) (t h : ℕ) → t ≡ top f → h ≡ hid f → t / h - 1 ≡ ones f
ones_read f t h sign hidden = ap (λ (n : ℕ). n / h - 1) sign ∙ ap (λ (n : ℕ). top f / n - 1) hidden ∙ ones_of f

least_of : (f : Format) → low f + (1074 - low f) ≡ 1074
least_of binary32 = refl
least_of binary64 = refl

fraction_most : (f : Format) (b : ℕ) → hid f + b % hid f < 2 ^ prec f
fraction_most binary32 b = omega arith
fraction_most binary64 b = omega arith

least_most : (f : Format) → 1074 - low f < 2046
least_most binary32 = omega arith
least_most binary64 = omega arith

ones_next : (f : Format) → ones f ≡ suc (2 * emax f)
ones_next binary32 = refl
ones_next binary64 = refl

next_of : (n : ℕ) → (n ≡ 0 → ⊥) → n ≡ suc (n - 1)
next_of zero h = absurd (h refl)
next_of (suc n) h = omega arith

below_ones : (n : ℕ) → (n ≡ 2047 → ⊥) → n < 2048 → n < 2047
below_ones n other below = omega (arith, other, below)

place_most : (f : Format) (b x : ℕ) → b % top f / hid f ≡ suc x → (suc x ≡ ones f → ⊥) → x + (1074 - low f) < 2046
place_most binary32 b x e o = omega (arith, e)
place_most binary64 b x e o = let below : suc x < 2047 = below_ones _ o (omega (arith, e)) in omega (arith, below)

pub no_magnitude_read : (f : Format) (b u t h : ℕ) → u ≡ b → t ≡ top f → h ≡ hid f → u % t / h ≡ ones f
    → float_is_finite (of_bits f b) ≡ false
no_magnitude_read f b u t h pattern sign hidden at =
    no_magnitude f b (2 * emax f) (sym (exponent_read f b u t h pattern sign hidden) ∙ at ∙ ones_next f) (sym (ones_next f))

pub subnormal_read : (f : Format) (b u t h l : ℕ) (p : Scaled) → u ≡ b → t ≡ top f → h ≡ hid f → l ≡ low f → u % t / h ≡ 0
    → p.digits ≡ b % hid f → p.place ≡ 1074 - l → IsMagnitude f (of_bits f b) p
subnormal_read f b u t h l p pattern sign hidden lowest at digits place =
    subnormal f b (1074 - low f) p (sym (exponent_read f b u t h pattern sign hidden) ∙ at) (least_of f) digits
    (place ∙ ap (λ (n : ℕ). 1074 - n) lowest)
    (let m = fraction_most f b in omega (arith, m)) (least_most f)

pub normal_read : (f : Format) (b u t h l : ℕ) (p : Scaled) → u ≡ b → t ≡ top f → h ≡ hid f → l ≡ low f → (u % t / h ≡ 0 → ⊥)
    → (u % t / h ≡ ones f → ⊥)
    → p.digits ≡ hid f + b % hid f → p.place ≡ u % t / h - 1 + (1074 - l) → IsMagnitude f (of_bits f b) p
normal_read f b u t h l p pattern sign hidden lowest nonzero finite digits place =
    let x = u % t / h - 1 in
    let next : u % t / h ≡ suc x = next_of _ nonzero in
    let at : b % top f / hid f ≡ suc x = sym (exponent_read f b u t h pattern sign hidden) ∙ next in
    let below : suc x ≡ ones f → ⊥ = λ same. finite (next ∙ same) in
    normal f b x (1074 - low f) p at below (least_of f) digits (place ∙ ap (λ (n : ℕ). x + (1074 - n)) lowest) (fraction_most f b)
    (place_most f b x at below)
