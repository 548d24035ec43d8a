-- Whole parts and signs of the values of patterns.
use Rattle.std.proofs.Common.{◌≡◌, ℕ, zero, suc, ◌+◌, ◌-◌, ◌*◌, ◌/◌, ◌%◌, ◌^◌, ◌<◌, ◌≤◌, Bool, true, false, cond, nat_eq, sym, ap, ◌∙◌}
use Rattle.std.proofs.Common.{refl, arith, inl, inr}
use Rattle.std.proofs.Math.Nat.{div-add-mod', div-div-eq-div-mul, div-lt_iff_lt-mul, eq-zero-or-pos, eq_of_mul-eq-mul_right}
use Rattle.std.proofs.Math.Nat.{lt_of_mul-lt-mul_right}
use Rattle.std.proofs.Math.Nat.{mul-div_cancel, mul-le-mul_right, mul-lt-mul_of_pos_right, zero-mul}
use Rattle.std.proofs.Math.Pow.{pow_mono}
use Rattle.std.proofs.lemmas.Bool.{eqb-true, le-ltb, lt-leb, lt-ltb, ltb-true, true≢false}
use Rattle.std.proofs.lemmas.Nat.{mod_below, pow-add, pow_pos}
use Rattle.std.specs.Float.{float_is_finite, is_sign_negative}
use Rattle.rv_float_flags.specs.Scaled.{amount, IsMagnitude}
use Rattle.rv_float_flags.specs.declared.scaled.Scaled.{Scaled}
use Rattle.rv_float_flags.proofs.Magnitudes.{normal_read, subnormal_read}
use Rattle.rv_float_tables.specs.declared.instr.WordKind.{WordKind}
use Rattle.rv_float_tables.specs.declared.instr.WordKind.TheVariants.{Signed, Unsigned}
use Rattle.float_unit.specs.NoNewFlags.{digits, exponent, is_in_range, is_whole, limit}
use Rattle.float_unit.specs.Whole.{IsCut}
use Rattle.float_unit.proofs.Words.{IsOf}
use lib.Dec.{eqb, leb}
use lib.Ieee.{Float, Format, nan, inf, fin, binary32, binary64, emax, hid, low, of_bits, of_fields, ones, prec, top}
use lib.Ieee.Exact.{HasValue, odd_sign}
use lib.Ieee.Positive.{den, den_pos, num}

-- ---- signs

sign_of : (y : Float) (s : Bool) (a c : ℕ) → HasValue y s a c → is_sign_negative y ≡ s
unfolding is_sign_negative
sign_of nan s a c h = absurd h
sign_of (inf t) s a c h = absurd h
sign_of (fin t m e) s a c h = h.0

cond_sign : (b c s : Bool) (y : Float) → is_sign_negative y ≡ s → float_is_finite (cond b (cond c (inf s) nan) y) ≡ true
    → is_sign_negative (cond b (cond c (inf s) nan) y) ≡ s
unfolding is_sign_negative float_is_finite
cond_sign true true s y h k = absurd (true≢false (sym k))
cond_sign true false s y h k = absurd (true≢false (sym k))
cond_sign false c s y h k = h

fields_sign : (f : Format) (s : Bool) (x t : ℕ) → float_is_finite (of_fields f s x t) ≡ true → is_sign_negative (of_fields f s x t) ≡ s
unfolding of_fields
fields_sign f s zero t h = sign_of _ s _ _ (odd_sign (prec f) s t 0 (low f))
fields_sign f s (suc x) t h = cond_sign (eqb (suc x) (ones f)) (eqb t 0) s _ (sign_of _ s _ _ (odd_sign (prec f) s (hid f + t) x (low f))) h

pub sign_is : (f : Format) (a : ℕ) → float_is_finite (of_bits f a) ≡ true → is_sign_negative (of_bits f a) ≡ leb (top f) a
unfolding of_bits
sign_is f a h = fields_sign f (leb (top f) a) (a % top f / hid f) (a % hid f) h

-- the same, by what the code reads of a format and of a pattern
pub sign_read : (f : Format) (a t u : ℕ) → t ≡ top f → u ≡ a → float_is_finite (of_bits f a) ≡ true
    → leb t u ≡ is_sign_negative (of_bits f a)
sign_read f a t u top_is is finite = ap (λ (n : ℕ). leb n u) top_is ∙ ap (leb (top f)) is ∙ sym (sign_is f a finite)

-- ---- whole parts

below_one : (f : Format) (x : Float) (p : Scaled) → IsMagnitude f x p → prec f + p.place ≤ 1074 → IsCut x 0
below_one f x p m l =
    let d : 0 < den x = den_pos x in
    let a : 2 ^ (prec f + p.place) ≤ 2 ^ 1074 = pow_mono l in
    let b : 2 ^ (prec f + p.place) ≡ 2 ^ prec f * 2 ^ p.place = pow-add 2 (prec f) p.place in
    let c : amount p < 2 ^ prec f * 2 ^ p.place = mul-lt-mul_of_pos_right m.narrow (pow_pos p.place) in
    let e : amount p < 2 ^ 1074 = omega (arith, a, b, c) in
    let g : amount p * den x < 2 ^ 1074 * den x = mul-lt-mul_of_pos_right e d in
    let h : num x * 2 ^ 1074 < den x * 2 ^ 1074 = omega (arith, m.value, g) in
    let i : num x < den x = lt_of_mul-lt-mul_right (2 ^ 1074) h in
    record { finite = m.finite; least = omega arith; most = omega (arith, i) }

-- in units of 2 ^ -k
units : (f : Format) (x : Float) (p : Scaled) (k : ℕ) → IsMagnitude f x p → p.place + k ≡ 1074 → num x * 2 ^ k ≡ p.digits * den x
units f x p k m e =
    let a : 2 ^ 1074 ≡ 2 ^ p.place * 2 ^ k = ap (λ (z : ℕ). 2 ^ z) (sym e) ∙ pow-add 2 p.place k in
    let b : num x * (2 ^ p.place * 2 ^ k) ≡ p.digits * 2 ^ p.place * den x = ap (λ (z : ℕ). num x * z) (sym a) ∙ m.value in
    let c : num x * 2 ^ k * 2 ^ p.place ≡ p.digits * den x * 2 ^ p.place = omega (arith, b) in
    eq_of_mul-eq-mul_right (2 ^ p.place) (pow_pos p.place) _ _ c

cut_units : (x : Float) (d k : ℕ) → float_is_finite x ≡ true → num x * 2 ^ k ≡ d * den x → IsCut x (d / 2 ^ k)
cut_units x d k finite h =
    let q = d / 2 ^ k in
    let r = d % 2 ^ k in
    let e : q * 2 ^ k + r ≡ d = div-add-mod' d (2 ^ k) in
    let P : 0 < 2 ^ k = pow_pos k in
    let l : r < 2 ^ k = mod_below d (2 ^ k) P in
    let D : 0 < den x = den_pos x in
    let a : r * den x < 2 ^ k * den x = mul-lt-mul_of_pos_right l D in
    let b : q * 2 ^ k * den x + r * den x ≡ num x * 2 ^ k = omega (arith, h, ap (λ (z : ℕ). z * den x) e) in
    record {
      finite = finite;
      least = let c : q * den x * 2 ^ k < (num x + 1) * 2 ^ k = omega (arith, b, P) in
          let i : q * den x < num x + 1 = lt_of_mul-lt-mul_right (2 ^ k) c in omega (arith, i);
      most = let c : num x * 2 ^ k < (q + 1) * den x * 2 ^ k = omega (arith, b, a) in lt_of_mul-lt-mul_right (2 ^ k) c;
    }

whole_units : (x : Float) (d k : ℕ) → num x * 2 ^ k ≡ d * den x → d % 2 ^ k ≡ 0 → d / 2 ^ k * den x ≡ num x
whole_units x d k h z =
    let e : d / 2 ^ k * 2 ^ k + d % 2 ^ k ≡ d = div-add-mod' d (2 ^ k) in
    let a : d / 2 ^ k * den x * 2 ^ k ≡ num x * 2 ^ k = omega (arith, h, ap (λ (i : ℕ). i * den x) e, ap (λ (i : ℕ). i * den x) z) in
    eq_of_mul-eq-mul_right (2 ^ k) (pow_pos k) _ _ a

-- ---- of patterns

-- what is in range has its last digit at most one place above the smallest positive value
last : (f : Format) (e : ℕ) → e < limit Unsigned f → e ≤ low f + 1
last binary32 e h = omega (arith, h)
last binary64 e h = omega (arith, h)

not_ones : (f : Format) (e : ℕ) → e < limit Unsigned f → e ≡ ones f → ⊥
not_ones binary32 e h same = absurd (omega (arith, h, same))
not_ones binary64 e h same = absurd (omega (arith, h, same))

not_zero : (f : Format) (e : ℕ) → emax f ≤ e → e ≡ 0 → ⊥
not_zero binary32 e l none = absurd (omega (arith, l, none))
not_zero binary64 e l none = absurd (omega (arith, l, none))

place_is : (f : Format) (e : ℕ) → emax f ≤ e → e < limit Unsigned f → e - 1 + (1074 - low f) + (low f + 1 - e) ≡ 1074
place_is binary32 e l h = omega (arith, l, h)
place_is binary64 e l h = omega (arith, l, h)

-- the digits, in units of the last one
record InUnits (f : Format) (a : ℕ) : Type 0 where
  finite : float_is_finite (of_bits f a) ≡ true
  value : num (of_bits f a) * 2 ^ (low f + 1 - exponent f a) ≡ digits f a * den (of_bits f a)

in_units : (f : Format) (a : ℕ) → emax f ≤ exponent f a → exponent f a < limit Unsigned f → InUnits f a
in_units f a l h =
    let p : Scaled = record { digits = digits f a; place = exponent f a - 1 + (1074 - low f) } in
    let m : IsMagnitude f (of_bits f a) p =
    normal_read f a a (top f) (hid f) (low f) p refl refl refl refl (not_zero f (exponent f a) l) (not_ones f (exponent f a) h) refl refl
    in
    record { finite = m.finite; value = units f (of_bits f a) p (low f + 1 - exponent f a) m (place_is f (exponent f a) l h) }

pub cut_is : (f : Format) (a : ℕ) → emax f ≤ exponent f a → exponent f a < limit Unsigned f
    → IsCut (of_bits f a) (digits f a / 2 ^ (low f + 1 - exponent f a))
cut_is f a l h = let u = in_units f a l h in cut_units (of_bits f a) _ (low f + 1 - exponent f a) u.finite u.value

none_of : (f : Format) (x : Float) (p : Scaled) → IsMagnitude f x p → p.digits ≡ 0 → 0 * den x ≡ num x
none_of f x p m z =
    let a : amount p * den x ≡ 0 =
    ap (λ (i : ℕ). i * 2 ^ p.place * den x) z ∙ ap (λ (i : ℕ). i * den x) (zero-mul (2 ^ p.place)) ∙ zero-mul (den x) in
    eq_of_mul-eq-mul_right (2 ^ 1074) (pow_pos 1074) _ _ (omega (arith, m.value, a))

-- zero and subnormal numbers, and those that are less than 1
subnormal_place : (f : Format) → prec f + (1074 - low f) ≤ 1074
subnormal_place binary32 = omega arith
subnormal_place binary64 = omega arith

normal_place : (f : Format) (e : ℕ) → e < emax f → prec f + (e - 1 + (1074 - low f)) ≤ 1074
normal_place binary32 e l = omega (arith, l)
normal_place binary64 e l = omega (arith, l)

small_not_ones : (f : Format) (e : ℕ) → e < emax f → e ≡ ones f → ⊥
small_not_ones binary32 e l same = absurd (omega (arith, l, same))
small_not_ones binary64 e l same = absurd (omega (arith, l, same))

-- what is less than 1: its magnitude, which is zero where the pattern is
record IsSmall (f : Format) (a : ℕ) : Type 0 where
  scaled : Scaled
  magnitude : IsMagnitude f (of_bits f a) scaled
  place : prec f + scaled.place ≤ 1074
  zero : a % top f ≡ 0 → scaled.digits ≡ 0

no_digits : (f : Format) (a : ℕ) → a % top f ≡ 0 → a % hid f ≡ 0
no_digits binary32 a z = omega (arith, z)
no_digits binary64 a z = omega (arith, z)

no_exponent : (f : Format) (a : ℕ) → a % top f ≡ 0 → exponent f a ≡ 0
no_exponent binary32 a z = omega (arith, z)
no_exponent binary64 a z = omega (arith, z)

is_small : (f : Format) (a : ℕ) → exponent f a < emax f → IsSmall f a
is_small f a l = elim (eq-zero-or-pos (exponent f a)) [
  | inl z ↦ record {
    scaled = record { digits = a % hid f; place = 1074 - low f };
    magnitude = subnormal_read f a a (top f) (hid f) (low f) _ refl refl refl refl z refl refl;
    place = subnormal_place f;
    zero = no_digits f a;
  }
  | inr p ↦ record {
    scaled = record { digits = digits f a; place = exponent f a - 1 + (1074 - low f) };
    magnitude = normal_read f a a (top f) (hid f) (low f) _ refl refl refl refl (λ z. absurd (omega (arith, p, z)))
        (small_not_ones f (exponent f a) l) refl refl;
    place = normal_place f (exponent f a) l;
    zero = λ z. absurd (let none = no_exponent f a z in omega (arith, p, none));
  }
]

pub below_one_is : (f : Format) (a : ℕ) → exponent f a < emax f → IsCut (of_bits f a) 0
below_one_is f a l = let s = is_small f a l in below_one f (of_bits f a) s.scaled s.magnitude s.place

-- a zero
pub zero_is : (f : Format) (a : ℕ) → a % top f ≡ 0 → exponent f a < emax f → 0 * den (of_bits f a) ≡ num (of_bits f a)
zero_is f a z l = let s = is_small f a l in none_of f (of_bits f a) s.scaled s.magnitude (s.zero z)

-- ---- what the code asks of patterns

below_power : (d k l m : ℕ) → l ≤ k → d < m * 2 ^ l → d / 2 ^ k < m
below_power d k l m h less =
    let a : 2 ^ l ≤ 2 ^ k = pow_mono h in
    let b : 2 ^ l * m ≤ 2 ^ k * m = mul-le-mul_right m a in
    let c : d < m * 2 ^ k = omega (arith, b, less) in
    (div-lt_iff_lt-mul (pow_pos k)).1 c

pub narrow_is : (f : Format) (a : ℕ) → exponent f a < limit Unsigned f → digits f a / 2 ^ (low f + 1 - exponent f a) < 2 ^ 32
narrow_is binary32 a h = below_power (digits binary32 a) (low binary32 + 1 - exponent binary32 a) 0 (2 ^ 32) (omega arith) (omega arith)
narrow_is binary64 a h =
    below_power (digits binary64 a) (low binary64 + 1 - exponent binary64 a) 21 (2 ^ 32) (omega (arith, h)) (omega arith)

pub narrower_is : (f : Format) (a : ℕ) → exponent f a < limit Signed f → digits f a / 2 ^ (low f + 1 - exponent f a) < 2 ^ 31
narrower_is binary32 a h = below_power (digits binary32 a) (low binary32 + 1 - exponent binary32 a) 0 (2 ^ 31) (omega arith) (omega arith)
narrower_is binary64 a h =
    below_power (digits binary64 a) (low binary64 + 1 - exponent binary64 a) 22 (2 ^ 31) (omega (arith, h)) (omega arith)

short : (f : Format) (a : ℕ) → digits f a < (2 ^ prec f + 1) * 2 ^ 0
short binary32 a = omega arith
short binary64 a = omega arith

pub short_is : (f : Format) (a k : ℕ) → digits f a / 2 ^ k ≤ 2 ^ prec f
short_is f a k = let less = below_power (digits f a) k 0 (2 ^ prec f + 1) (omega arith) (short f a) in omega (arith, less)

pub none_is : (f : Format) (a : ℕ) → exponent f a < emax f → is_whole f a ≡ true → 0 * den (of_bits f a) ≡ num (of_bits f a)
none_is f a l h =
    let e : nat_eq (a % top f) 0 ≡ true =
    sym (ap (λ (b : Bool). cond b (nat_eq (a % top f) 0) (nat_eq (digits f a % 2 ^ (low f + 1 - exponent f a)) 0))
    (lt-ltb (exponent f a) (emax f) l)) ∙ h
    in
    zero_is f a (eqb-true _ _ e) l

pub rest_is : (f : Format) (a : ℕ) → emax f ≤ exponent f a → exponent f a < limit Unsigned f → is_whole f a ≡ true
    → digits f a / 2 ^ (low f + 1 - exponent f a) * den (of_bits f a) ≡ num (of_bits f a)
rest_is f a g l h =
    let e : nat_eq (digits f a % 2 ^ (low f + 1 - exponent f a)) 0 ≡ true =
    sym (ap (λ (b : Bool). cond b (nat_eq (a % top f) 0) (nat_eq (digits f a % 2 ^ (low f + 1 - exponent f a)) 0))
    (le-ltb (exponent f a) (emax f) g)) ∙ h
    in
    whole_units (of_bits f a) _ (low f + 1 - exponent f a) (in_units f a g l).value (eqb-true _ _ e)

-- a pattern below the sign's is not negative
positive : (f : Format) (a : ℕ) → is_sign_negative (of_bits f a) ≡ leb (top f) a → a < top f → is_sign_negative (of_bits f a) ≡ true → ⊥
positive f a s l h = true≢false (sym h ∙ s ∙ lt-leb (top f) a l)

exponent_below : (f : Format) (a e : ℕ) → a % top f < e * hid f → exponent f a < e
exponent_below f a e h = (div-lt_iff_lt-mul (pow_pos (prec f - 1))).1 h

positive_below : (f : Format) (a : ℕ) → a < limit Unsigned f * hid f → a < top f
positive_below binary32 a h = omega (arith, h)
positive_below binary64 a h = omega (arith, h)

pub is_of : (kind : WordKind) (f : Format) (a n : ℕ) → is_in_range kind f a ≡ true → IsCut (of_bits f a) n
    → (exponent f a < limit Signed f → n < 2 ^ 31) → n < 2 ^ 32
    → IsOf kind (is_sign_negative (of_bits f a)) n
is_of Signed f a n h cut below all = below (exponent_below f a (limit Signed f) (ltb-true _ _ h))
is_of Unsigned f a n h cut below all =
    (all, λ s. absurd (positive f a (sign_is f a cut.finite) (positive_below f a (ltb-true _ _ h)) s))

-- digits at the upper end of a word, which are shifted by as much more
shift_is : (f : Format) (e : ℕ) → e ≤ low f + 1 → emax f + 63 - e ≡ 64 - prec f + (low f + 1 - e)
shift_is binary32 e h = omega (arith, h)
shift_is binary64 e h = omega (arith, h)

scale_is : (f : Format) → 2 ^ 63 / hid f ≡ 2 ^ (64 - prec f)
scale_is binary32 = refl
scale_is binary64 = refl

pub shifted : (f : Format) (a : ℕ) → exponent f a < limit Unsigned f
    → digits f a * (2 ^ 63 / hid f) / 2 ^ (emax f + 63 - exponent f a) ≡ digits f a / 2 ^ (low f + 1 - exponent f a)
shifted f a h =
    let d = digits f a in
    let i = 64 - prec f in
    let j = low f + 1 - exponent f a in
    ap (λ (n : ℕ). d * (2 ^ 63 / hid f) / 2 ^ n) (shift_is f (exponent f a) (last f (exponent f a) h))
    ∙ ap (λ (n : ℕ). d * n / 2 ^ (i + j)) (scale_is f)
    ∙ ap (λ (n : ℕ). d * 2 ^ i / n) (pow-add 2 i j)
    ∙ sym (div-div-eq-div-mul (d * 2 ^ i) (2 ^ i) (2 ^ j))
    ∙ ap (λ (n : ℕ). n / 2 ^ j) (mul-div_cancel d {n = 2 ^ i} (pow_pos i))

-- the same, by what the code reads of a format and of a pattern
pub shifted_read : (f : Format) (a d h b e : ℕ) → d ≡ digits f a → h ≡ hid f → b ≡ emax f → e ≡ exponent f a
    → exponent f a < limit Unsigned f
    → d * (2 ^ 63 / h) / 2 ^ (b + 63 - e) ≡ digits f a / 2 ^ (low f + 1 - exponent f a)
shifted_read f a d h b e digits_are hid_is bias_is exponent_is less =
    ap (λ (n : ℕ). n * (2 ^ 63 / h) / 2 ^ (b + 63 - e)) digits_are
    ∙ ap (λ (n : ℕ). digits f a * (2 ^ 63 / n) / 2 ^ (b + 63 - e)) hid_is
    ∙ ap (λ (n : ℕ). digits f a * (2 ^ 63 / hid f) / 2 ^ (n + 63 - e)) bias_is
    ∙ ap (λ (n : ℕ). digits f a * (2 ^ 63 / hid f) / 2 ^ (emax f + 63 - n)) exponent_is
    ∙ shifted f a less

-- they fit there
pub fits_word : (f : Format) (a : ℕ) → digits f a * (2 ^ 63 / hid f) < 2 ^ 64
fits_word binary32 a = omega arith
fits_word binary64 a = omega arith
