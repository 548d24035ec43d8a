-- A rounding, from the pattern without bounds, and operations, from a rounding.
use Rattle.std.proofs.Common.{◌≡◌, ℕ, ◌+◌, ◌-◌, ◌*◌, ◌<◌, ◌^◌, Bool, true, false, ◌&&◌, ◌||◌, if◌then◌else◌, nat_le, nat_lt, sym, ap, ◌∙◌}
use Rattle.std.proofs.Common.{refl, arith, inl, inr}
use Rattle.std.proofs.Math.Nat.{eq-zero-or-pos, mul-pos}
use Rattle.std.proofs.lemmas.Bool.{lt-leb, lt-ltb}
use Rattle.std.proofs.lemmas.Nat.{pow_pos}
use Rattle.rv_floats.specs.declared.rounding.Rounding.{Rounding}
use Rattle.rv_float_flags.specs.Exact.{Ratio}
use Rattle.rv_float_flags.specs.Flags.{no_flags}
use Rattle.rv_float_flags.specs.declared.flags.Flags.{Flags}
use Rattle.rv_float_modes.specs.Enclosed.{IsFormat, IsNumber, IsShape}
use Rattle.rv_float_modes.specs.Modes.{bounded, infinity, is_tiny_in, rest, rounding_in, twice, unbounded, with_sign}
use Rattle.rv_float_modes.specs.Operations.{either}
use Rattle.rv_float_modes.specs.declared.rounded.Rounded.{Rounded}
use Rattle.rv_float_modes.specs.declared.rounding.Shape.{Shape}
use Rattle.rv_float_modes.proofs.Exactly.{zero_rest, zero_unbounded}
use lib.Count.{count_trailing_zeros}
use lib.Ieee.{Format, binary32, binary64, hid, low, top}

-- ---- the next pattern, or not

pub goes : (u g : Bool) (p t q : ℕ) → u ≡ g → u ≡ true → p ≡ t → q ≡ p + 1 → q ≡ (if g then t + 1 else t)
goes u g p t q e h k l = l ∙ ap (λ (z : ℕ). z + 1) k ∙ ap (λ (z : Bool). if z then t + 1 else t) (sym (sym e ∙ h))

pub stops : (u g : Bool) (p t q : ℕ) → u ≡ g → u ≡ false → p ≡ t → q ≡ p → q ≡ (if g then t + 1 else t)
stops u g p t q e h k l = l ∙ k ∙ ap (λ (z : Bool). if z then t + 1 else t) (sym (sym e ∙ h))

-- ---- the pattern and the flags

abbrev pub pair : ℕ → Flags → Rounded
pair b g = record { bits = b; flags = g }

abbrev flags_by : Bool → Bool → Bool → Flags
flags_by inexact overflow tiny =
    record { nv = false; dz = false; of = overflow; uf = tiny && (inexact || overflow); nx = inexact || overflow }

pub rounding_is : (mode : Rounding) (negative : Bool) (f : Format) (r : Ratio) (s : Shape) (p t bits bound : ℕ) (inexact : Bool)
    (flags : Flags)
    → IsShape f s → p ≡ unbounded mode negative f r → inexact ≡ nat_lt 0 (rest f r) → t ≡ unbounded mode negative f (twice r)
    → bound ≡ bounded mode negative f p → bits ≡ with_sign f negative bound
    → flags ≡ record {
      nv = false;
      dz = false;
      of = nat_le s.infinity p;
      uf = nat_lt t (2 * s.hidden) && (inexact || nat_le s.infinity p);
      nx = inexact || nat_le s.infinity p;
    }
    → pair bits flags ≡ rounding_in mode negative f r
rounding_is mode negative f r s p t bits bound inexact flags h e i k b w g =
    let u = unbounded mode negative f r in
    let o : nat_le s.infinity p ≡ nat_le (infinity f) u = ap (λ (z : ℕ). nat_le z p) h.infinity ∙ ap (λ (z : ℕ). nat_le (infinity f) z) e in
    let y : nat_lt t (2 * s.hidden) ≡ is_tiny_in mode negative f r =
    ap (λ (z : ℕ). nat_lt t (2 * z)) h.hidden ∙ ap (λ (z : ℕ). nat_lt z (2 * hid f)) k in
    let v : bits ≡ with_sign f negative (bounded mode negative f u) =
    w ∙ ap (λ (z : ℕ). with_sign f negative z) (b ∙ ap (λ (z : ℕ). bounded mode negative f z) e) in
    let a : flags ≡ flags_by (nat_lt 0 (rest f r)) (nat_le (infinity f) u) (is_tiny_in mode negative f r) =
    g ∙ ap (λ (z : Bool). flags_by z (nat_le s.infinity p) (nat_lt t (2 * s.hidden))) i
    ∙ ap (λ (z : Bool). flags_by (nat_lt 0 (rest f r)) z (nat_lt t (2 * s.hidden))) o
    ∙ ap (λ (z : Bool). flags_by (nat_lt 0 (rest f r)) (nat_le (infinity f) u) z) y
    in
    ap (λ (z : ℕ). pair z flags) v ∙ ap (λ (z : Flags). pair (with_sign f negative (bounded mode negative f u)) z) a

-- ---- zero

infinity_above : (f : Format) → 0 < infinity f
infinity_above binary32 = omega arith
infinity_above binary64 = omega arith

no_numerator : (a b u : ℕ) → 0 < u → a * u ≡ b → b ≡ 0 → a ≡ 0
no_numerator a b u h e z =
    elim (eq-zero-or-pos a) [ inl y ↦ y | inr p ↦ let m : 0 < a * u = mul-pos p h in absurd (omega (arith, m, e, z)) ]

inside : (b : Bool) (x y : ℕ) → b ≡ true → (if b then x else y) ≡ x
inside b x y h = ap (λ (z : Bool). if z then x else y) h

and_false : (b : Bool) → (b && false) ≡ false
and_false true = refl
and_false false = refl

pub zero_rounding : (mode : Rounding) (negative : Bool) (f : Format) (r : Ratio) (digits place bits : ℕ) (flags : Flags)
    → IsNumber r digits place → digits ≡ 0
    → bits ≡ with_sign f negative 0 → flags ≡ no_flags → pair bits flags ≡ rounding_in mode negative f r
zero_rounding mode negative f r digits place bits flags h z w g =
    let n : r.numerator ≡ 0 =
    no_numerator r.numerator (digits * 2 ^ place * r.denominator) (2 ^ 4096) (pow_pos 4096) h.value
    (ap (λ (x : ℕ). x * 2 ^ place * r.denominator) z ∙ (let k : 0 * 2 ^ place * r.denominator ≡ 0 = omega arith in k))
    in
    let u : unbounded mode negative f r ≡ 0 = zero_unbounded mode negative f r n h.nonzero in
    let i : nat_lt 0 (rest f r) ≡ false = zero_rest f r n h.nonzero in
    let o : nat_le (infinity f) (unbounded mode negative f r) ≡ false =
    ap (λ (x : ℕ). nat_le (infinity f) x) u ∙ lt-leb (infinity f) 0 (infinity_above f) in
    let t : is_tiny_in mode negative f r ≡ is_tiny_in mode negative f r = refl in
    let b : bounded mode negative f (unbounded mode negative f r) ≡ 0 =
    ap (λ (x : ℕ). bounded mode negative f x) u
    ∙ inside (nat_lt 0 (infinity f)) 0 _ (lt-ltb 0 (infinity f) (infinity_above f))
    in
    let v : with_sign f negative (bounded mode negative f (unbounded mode negative f r)) ≡ bits =
    ap (λ (x : ℕ). with_sign f negative x) b ∙ sym w in
    let c : flags_by (nat_lt 0 (rest f r)) (nat_le (infinity f) (unbounded mode negative f r)) (is_tiny_in mode negative f r) ≡ flags =
    ap (λ (x : Bool). flags_by x (nat_le (infinity f) (unbounded mode negative f r)) (is_tiny_in mode negative f r)) i
    ∙ ap (λ (x : Bool). flags_by false x (is_tiny_in mode negative f r)) o
    ∙ ap (λ (x : Bool). record { nv = false; dz = false; of = false; uf = x; nx = false }) (and_false (is_tiny_in mode negative f r))
    ∙ sym g
    in
    sym (ap (λ (x : ℕ). pair x
    (flags_by (nat_lt 0 (rest f r)) (nat_le (infinity f) (unbounded mode negative f r)) (is_tiny_in mode negative f r))) v
    ∙ ap (λ (x : Flags). pair bits x) c)

-- ---- operations

-- the numbers of a format, as they follow from the weight of the exponent's field, the sign's and the smallest positive value
pub shape_of : (f : Format) (s : Shape) → s.digits ≡ count_trailing_zeros 64 (hid f) + 1 → s.lowest ≡ 4096 - low f → s.hidden ≡ hid f
    → s.infinity ≡ top f - hid f → s.sign ≡ top f → IsShape f s
unfolding count_trailing_zeros
shape_of binary32 s digits lowest hidden largest sign =
    record { digits = digits; lowest = omega (arith, lowest); hidden = hidden; infinity = largest; sign = sign }
shape_of binary64 s digits lowest hidden largest sign =
    record { digits = digits; lowest = omega (arith, lowest); hidden = hidden; infinity = largest; sign = sign }

pub format_of : (f : Format) (s : Shape) → IsShape f s → IsFormat s
format_of binary32 s is = record {
  digits = omega (arith, is.digits);
  lowest = omega (arith, is.lowest);
  lowest_top = omega (arith, is.lowest);
  hidden = omega (arith, is.hidden);
  infinity = omega (arith, is.infinity);
  infinity_nonzero = omega (arith, is.infinity);
  sign = omega (arith, is.sign);
}
format_of binary64 s is = record {
  digits = omega (arith, is.digits);
  lowest = omega (arith, is.lowest);
  lowest_top = omega (arith, is.lowest);
  hidden = omega (arith, is.hidden);
  infinity = omega (arith, is.infinity);
  infinity_nonzero = omega (arith, is.infinity);
  sign = omega (arith, is.sign);
}

pub of_finite : (p q : Bool) (v w : Rounded) (bits : ℕ) (flags : Flags) → p ≡ true → q ≡ true → w ≡ v → w ≡ either (p && q) v bits flags
of_finite p q v w bits flags e h k =
    k ∙ sym (ap (λ (z : Bool). either (z && q) v bits flags) e ∙ ap (λ (z : Bool). either z v bits flags) h)

pub of_three : (p q r : Bool) (v w : Rounded) (bits : ℕ) (flags : Flags) → p ≡ true → q ≡ true → r ≡ true → w ≡ v
    → w ≡ either (p && q && r) v bits flags
of_three p q r v w bits flags e h l k =
    k
    ∙ sym (ap (λ (z : Bool). either (z && q && r) v bits flags) e ∙ ap (λ (z : Bool). either (z && r) v bits flags) h
    ∙ ap (λ (z : Bool). either z v bits flags) l)

pub divides : (b : Bool) (n : ℕ) → b ≡ true → 0 < n → (b && nat_lt 0 n) ≡ true
divides b n h k = ap (λ (z : Bool). z && nat_lt 0 n) h ∙ lt-ltb 0 n k

pub of_one : (p : Bool) (v w : Rounded) (bits : ℕ) (flags : Flags) → p ≡ true → w ≡ v → w ≡ either p v bits flags
of_one p v w bits flags e k = k ∙ sym (ap (λ (z : Bool). either z v bits flags) e)
