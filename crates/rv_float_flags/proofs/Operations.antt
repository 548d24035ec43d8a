-- The flags of operations on finite values, from the flags of a rounding.
use Rattle.std.proofs.Common.{◌≡◌, ℕ, ◌+◌, ◌*◌, ◌^◌, ◌<◌, Bool, true, false, cond, if◌then◌else◌, not, ◌&&◌, ◌||◌, ◌/◌, ◌%◌, nat_eq, nat_lt}
use Rattle.std.proofs.Common.{sym, ap, ◌∙◌, subst, refl, arith}
use Rattle.std.proofs.Math.Nat.{eq_of_mul-eq-mul_right, mul-pos}
use Rattle.std.proofs.lemmas.Nat.{pow_pos}
use Rattle.std.specs.Float.{float_is_finite, float_mul_add, float_zero, is_sign_negative, round_to_format}
use Rattle.std.specs.declared.option.Option.{Option}
use Rattle.rv_float_flags.specs.Exact.{Ratio, combined, exact_fused, exact_product, exact_quotient, exact_sum, exact_value, rounded}
use Rattle.rv_float_flags.specs.Flags.{divided_by_zero, inexact_if, invalid, invalid_if, no_flags, rounding_flags}
use Rattle.rv_float_flags.specs.Operations.{any_signaling, fused_flags, is_invalid_fused, is_invalid_product, is_invalid_sum, is_root}
use Rattle.rv_float_flags.specs.Operations.{is_division_by_zero, is_invalid_quotient, is_zero, product_flags, quotient_flags, root_flags}
use Rattle.rv_float_flags.specs.Operations.{sum_flags}
use Rattle.rv_float_flags.specs.Scaled.{amount, IsFraction, IsMagnitude, IsMagnitudeOf}
use Rattle.rv_float_flags.specs.declared.flags.Flags.{Flags}
use Rattle.rv_float_flags.specs.declared.scaled.Scaled.{Scaled}
use Rattle.rv_float_flags.proofs.Fractions.{fused_fraction, product_amount, product_fraction, quotient_fraction, raised_amount}
use Rattle.rv_float_flags.proofs.Fractions.{sum_fraction, value_fraction}
use Rattle.rv_float_flags.proofs.Numbers.{same_eq}
use Rattle.rv_float_flags.proofs.Results.{add_rounds, div_rounds, not_zero, fused_rounds, mul_rounds, of_pattern, rounded_so, value_rounds}
use lib.Dec.{T}
use Rattle.rv_floats.specs.Classes.{is_signaling}
use Rattle.rv_float_flags.specs.Conversions.{exact_word, narrowing_flags}
use lib.IntN.{ℤ, pos, negsuc}
use Rattle.std.specs.Prelude.{nat_abs}
use Rattle.std.proofs.lemmas.Bool.{true≢false}
use lib.Ieee.{Float, Format, nan, inf, fin, add, binary32, binary64, div, eq, fits, hid, is_nan, lt, mul, of_bits, of_int, round, sqrt}
use lib.Ieee.{to_bits, unlike}
use lib.Ieee.Fits.{round-fits, sqrt-fits}
use lib.Ieee.Bits.{of_bits-to_bits}
use lib.Ieee.Positive.{den, den_pos, num}

-- what a rounding's flags are, of a result's pattern
abbrev pub Rounds : Format → ℕ → Option Scaled → Flags → Type 0
Rounds f n m g = (r : Ratio) → IsFraction r n 1 → IsMagnitudeOf f (rounded f r) m → g ≡ rounding_flags f r

-- the same of what `so` makes of the flags
abbrev pub RoundsSo : (Flags → Flags) → Format → ℕ → Option Scaled → Flags → Type 0
RoundsSo so f n m g = (r : Ratio) → IsFraction r n 1 → IsMagnitudeOf f (rounded f r) m → g ≡ so (rounding_flags f r)

abbrev pub Raised : Scaled → Scaled → Type 0
Raised p r = r ≡ record { digits = p.digits; place = p.place + 1074 }

abbrev pub Times : Scaled → Scaled → Scaled → Type 0
Times p q r = r ≡ record { digits = p.digits * q.digits; place = p.place + q.place }

pub result : (f : Format) (v : Float) (u : ℕ) (m : Option Scaled) (s : Bool) (r : Ratio) → u ≡ to_bits f v → IsMagnitudeOf f (of_bits f u) m
    → v ≡ round f s r.numerator r.denominator → IsMagnitudeOf f (rounded f r) m
result f v u m s r e h k =
    let fit : T (fits f v) = subst (λ (x : Float). T (fits f x)) (sym k) (round-fits f s r.numerator r.denominator) in
    rounded_so f s v r m k (of_pattern f v m fit (subst (λ (n : ℕ). IsMagnitudeOf f (of_bits f n) m) e h))

two : (b d : Bool) (g h : Flags) → b ≡ true → d ≡ true → g ≡ (if b && d then g else h)
two b d g h e k = sym (ap (λ (x : Bool). cond (x && d) g h) e ∙ ap (λ (x : Bool). cond x g h) k)

three : (b d i : Bool) (g h : Flags) → b ≡ true → d ≡ true → i ≡ true → g ≡ (if b && d && i then g else h)
three b d i g h e k l =
    sym (ap (λ (x : Bool). cond (x && d && i) g h) e ∙ ap (λ (x : Bool). cond (x && i) g h) k ∙ ap (λ (x : Bool). cond x g h) l)

-- whatever is made of the flags: `so` makes it
pub of_sum_so : (so : Flags → Flags) (f : Format) (x y : Float) (p q a b : Scaled) (o : Bool) (u : ℕ) (m : Option Scaled) (g : Flags)
    → IsMagnitude f x p → IsMagnitude f y q
    → Raised p a → Raised q b → o ≡ unlike (is_sign_negative x) (is_sign_negative y) → u ≡ to_bits f (add f x y)
    → IsMagnitudeOf f (of_bits f u) m
    → RoundsSo so f (combined o (amount a) (amount b)) m g → g ≡ so (sum_flags f x y)
of_sum_so so f x y p q a b o u m g hx hy ha hb ho hu hm k =
    let r = exact_sum x y in
    let s = unlike (is_sign_negative x) (is_sign_negative y) in
    let e : combined s (amount p * 2 ^ 1074) (amount q * 2 ^ 1074) ≡ combined o (amount a) (amount b) =
    ap (λ (z : ℕ). combined s z (amount q * 2 ^ 1074)) (sym (raised_amount p a ha))
    ∙ ap (λ (z : ℕ). combined s (amount a) z) (sym (raised_amount q b hb))
    ∙ ap (λ (z : Bool). combined z (amount a) (amount b)) (sym ho)
    in
    let w = add_rounds f x y hx.finite hy.finite in
    k r (subst (λ (n : ℕ). IsFraction r n 1) e (sum_fraction f s x y p q hx hy)) (result f (add f x y) u m w.0 r hu hm w.1)
    ∙ ap so (two _ _ (rounding_flags f r) (invalid_if (is_invalid_sum x y)) hx.finite hy.finite)

pub of_sum : (f : Format) (x y : Float) (p q a b : Scaled) (o : Bool) (u : ℕ) (m : Option Scaled) (g : Flags) → IsMagnitude f x p
    → IsMagnitude f y q
    → Raised p a → Raised q b → o ≡ unlike (is_sign_negative x) (is_sign_negative y) → u ≡ to_bits f (add f x y)
    → IsMagnitudeOf f (of_bits f u) m
    → Rounds f (combined o (amount a) (amount b)) m g → g ≡ sum_flags f x y
of_sum = of_sum_so (λ g. g)

pub of_product_so : (so : Flags → Flags) (f : Format) (x y : Float) (p q a : Scaled) (u : ℕ) (m : Option Scaled) (g : Flags)
    → IsMagnitude f x p → IsMagnitude f y q
    → Times p q a → u ≡ to_bits f (mul f x y) → IsMagnitudeOf f (of_bits f u) m → RoundsSo so f (amount a + 0 * 2 ^ 2148) m g
    → g ≡ so (product_flags f x y)
of_product_so so f x y p q a u m g hx hy ha hu hm k =
    let r = exact_product x y in
    let e : amount a + 0 * 2 ^ 2148 ≡ amount p * amount q =
    (let i : amount a + 0 * 2 ^ 2148 ≡ amount a = omega arith in i) ∙ product_amount p q a ha in
    let w = mul_rounds f x y hx.finite hy.finite in
    k r (product_fraction f x y p q (amount a + 0 * 2 ^ 2148) hx hy e) (result f (mul f x y) u m w.0 r hu hm w.1)
    ∙ ap so (two _ _ (rounding_flags f r) (invalid_if (is_invalid_product x y)) hx.finite hy.finite)

pub of_product : (f : Format) (x y : Float) (p q a : Scaled) (u : ℕ) (m : Option Scaled) (g : Flags) → IsMagnitude f x p → IsMagnitude f y q
    → Times p q a → u ≡ to_bits f (mul f x y) → IsMagnitudeOf f (of_bits f u) m → Rounds f (amount a + 0 * 2 ^ 2148) m g
    → g ≡ product_flags f x y
of_product = of_product_so (λ g. g)

-- finite operands do not signal
no_nan : (x : Float) → float_is_finite x ≡ true → is_nan x ≡ false
unfolding is_nan float_is_finite
no_nan nan h = absurd (true≢false (sym h))
no_nan (inf s) h = refl
no_nan (fin s m e) h = refl

pub no_signal : (f : Format) (a : ℕ) → float_is_finite (of_bits f a) ≡ true → is_signaling f a ≡ false
no_signal f a finite = ap (λ (b : Bool). b && nat_lt (a % hid f) (hid f / 2)) (no_nan (of_bits f a) finite)

pub none_signals : (f : Format) (a b : ℕ) (g h : Flags) → float_is_finite (of_bits f a) ≡ true → float_is_finite (of_bits f b) ≡ true
    → g ≡ (if any_signaling f a b then h else g)
none_signals f a b g h first second =
    sym (ap (λ (x : Bool). if x || is_signaling f b then h else g) (no_signal f a first)
    ∙ ap (λ (x : Bool). if x then h else g) (no_signal f b second))

pub of_fused : (f : Format) (x y z : Float) (p q i a b : Scaled) (o : Bool) (u : ℕ) (m : Option Scaled) (g : Flags) → IsMagnitude f x p
    → IsMagnitude f y q
    → IsMagnitude f z i → Times p q a → Raised i b → o ≡ unlike (unlike (is_sign_negative x) (is_sign_negative y)) (is_sign_negative z)
    → u ≡ to_bits f (float_mul_add f x y z) → IsMagnitudeOf f (of_bits f u) m → Rounds f (combined o (amount a) (amount b)) m g
    → g ≡ fused_flags f x y z
of_fused f x y z p q i a b o u m g hx hy hz ha hb ho hu hm k =
    let r = exact_fused x y z in
    let s = unlike (unlike (is_sign_negative x) (is_sign_negative y)) (is_sign_negative z) in
    let e : combined s (amount p * amount q) (amount i * 2 ^ 1074) ≡ combined o (amount a) (amount b) =
    ap (λ (n : ℕ). combined s n (amount i * 2 ^ 1074)) (sym (product_amount p q a ha))
    ∙ ap (λ (n : ℕ). combined s (amount a) n) (sym (raised_amount i b hb))
    ∙ ap (λ (n : Bool). combined n (amount a) (amount b)) (sym ho)
    in
    let w = fused_rounds f x y z hx.finite hy.finite hz.finite in
    k r (subst (λ (n : ℕ). IsFraction r n 1) e (fused_fraction f s x y z p q i hx hy hz))
    (result f (float_mul_add f x y z) u m w.0 r hu hm w.1)
    ∙ three _ _ _ (rounding_flags f r) (invalid_if (is_invalid_fused f x y z)) hx.finite hy.finite hz.finite

-- ---- roots

root_cross : (nz dz nx dx k p u : ℕ) → nz * u ≡ k * dz → nx * u ≡ p * dx → 0 < u → 0 < dz → 0 < dx
    → nat_eq (k * k) (p * u) ≡ nat_eq (nz * nz * dx) (nx * (dz * dz))
root_cross nz dz nx dx k p u e f U Z X =
    let a : nz * nz * dx * (u * u) ≡ k * k * (dz * dz * dx) =
    omega (arith, ap (λ (i : ℕ). i * (nz * u * dx)) e, ap (λ (i : ℕ). i * (k * dz * dx)) e) in
    let b : nx * (dz * dz) * (u * u) ≡ p * u * (dz * dz * dx) = omega (arith, ap (λ (i : ℕ). i * (u * dz * dz)) f) in
    let D : 0 < dz * dz * dx = mul-pos (mul-pos Z Z) X in
    same_eq (k * k) (p * u) (nz * nz * dx) (nx * (dz * dz))
    (λ g. eq_of_mul-eq-mul_right (u * u) (mul-pos U U) (nz * nz * dx) (nx * (dz * dz))
    (omega (arith, a, b, ap (λ (i : ℕ). i * (dz * dz * dx)) g)))
    (λ g. eq_of_mul-eq-mul_right (dz * dz * dx) D (k * k) (p * u) (omega (arith, a, b, ap (λ (i : ℕ). i * (u * u)) g)))

pub of_root : (f : Format) (z x : Float) (k p a b : Scaled) (t : Bool) → IsMagnitude f z k → IsMagnitude f x p → Times k k a → Raised p b
    → t ≡ nat_eq (amount a) (amount b) → t ≡ is_root z x
of_root f z x k p a b t hz hx ha hb e =
    e
    ∙ ap (λ (n : ℕ). nat_eq n (amount b)) (product_amount k k a ha)
    ∙ ap (λ (n : ℕ). nat_eq (amount k * amount k) n) (raised_amount p b hb)
    ∙ root_cross (num z) (den z) (num x) (den x) (amount k) (amount p) (2 ^ 1074) hz.value hx.value (pow_pos 1074) (den_pos z) (den_pos x)
    ∙ sym (ap (λ (i : Bool). i && nat_eq (num z * num z * den x) (num x * (den z * den z))) hz.finite)

-- ---- quotients

-- a test that failed, of two values
pub by_values : (t : Float → Float → Bool) (x y v w : Float) (b : Bool) → b ≡ t v w → v ≡ x → w ≡ y → b ≡ false → t x y ≡ false
by_values t x y v w b e h k l = sym (ap (λ (z : Float). t z w) h ∙ ap (λ (z : Float). t x z) k) ∙ sym e ∙ l

pub of_quotient_so : (so : Flags → Flags) (f : Format) (x y : Float) (p q : Scaled) (u : ℕ) (m : Option Scaled) (g : Flags)
    → IsMagnitude f x p → IsMagnitude f y q
    → is_invalid_quotient x y ≡ false → is_division_by_zero x y ≡ false → u ≡ to_bits f (div f x y) → IsMagnitudeOf f (of_bits f u) m
    → ((r : Ratio) → IsFraction r (p.digits * 2 ^ (p.place + 2148)) (amount q) → IsMagnitudeOf f (rounded f r) m
    → g ≡ so (rounding_flags f r))
    → g ≡ so (quotient_flags f x y)
of_quotient_so so f x y p q u m g hx hy hi hd hu hm k =
    let r = exact_quotient x y in
    let n : 0 < num y = not_zero y hy.finite (sym (ap (λ (b : Bool). b && is_zero y) hx.finite) ∙ hd) in
    let w = div_rounds f x y hx.finite hy.finite n in
    let rest = cond (float_is_finite x && float_is_finite y) (rounding_flags f r) no_flags in
    k r (quotient_fraction f x y p q hx hy n) (result f (div f x y) u m w.0 r hu hm w.1)
    ∙ ap so
    (two _ _ (rounding_flags f r) no_flags hx.finite hy.finite
    ∙ sym (ap (λ (b : Bool). cond b divided_by_zero rest) hd)
    ∙ sym (ap (λ (b : Bool). cond b invalid (cond (is_division_by_zero x y) divided_by_zero rest)) hi))

pub of_quotient : (f : Format) (x y : Float) (p q : Scaled) (u : ℕ) (m : Option Scaled) (g : Flags) → IsMagnitude f x p → IsMagnitude f y q
    → is_invalid_quotient x y ≡ false → is_division_by_zero x y ≡ false → u ≡ to_bits f (div f x y) → IsMagnitudeOf f (of_bits f u) m
    → ((r : Ratio) → IsFraction r (p.digits * 2 ^ (p.place + 2148)) (amount q) → IsMagnitudeOf f (rounded f r) m → g ≡ rounding_flags f r)
    → g ≡ quotient_flags f x y
of_quotient = of_quotient_so (λ g. g)

pub of_square : (f : Format) (x : Float) (p : Scaled) (u : ℕ) (t : Bool) (g : Flags) → IsMagnitude f x p → lt x float_zero ≡ false
    → u ≡ to_bits f (sqrt f x) → t ≡ is_root (of_bits f u) x → g ≡ inexact_if (not t) → g ≡ root_flags f x
of_square f x p u t g hx hl hu ht k =
    let e : of_bits f u ≡ sqrt f x = ap (λ (n : ℕ). of_bits f n) hu ∙ of_bits-to_bits f (sqrt f x) (sqrt-fits f x) in
    let found = inexact_if (not (is_root (sqrt f x) x)) in
    k
    ∙ ap (λ (b : Bool). inexact_if (not b)) (ht ∙ ap (λ (z : Float). is_root z x) e)
    ∙ sym (ap (λ (b : Bool). cond b found no_flags) hx.finite)
    ∙ sym (ap (λ (b : Bool). cond b invalid (cond (float_is_finite x) found no_flags)) hl)

-- ---- conversions

pub of_value : (e f : Format) (x : Float) (p a : Scaled) (u : ℕ) (m : Option Scaled) (g : Flags) → IsMagnitude e x p → Raised p a
    → u ≡ to_bits f (round_to_format f x) → IsMagnitudeOf f (of_bits f u) m → Rounds f (amount a + 0 * 2 ^ 2148) m g
    → g ≡ rounding_flags f (exact_value x)
of_value e f x p a u m g hx ha hu hm k =
    let r = exact_value x in
    let n : amount a + 0 * 2 ^ 2148 ≡ amount p * 2 ^ 1074 =
    (let i : amount a + 0 * 2 ^ 2148 ≡ amount a = omega arith in i) ∙ raised_amount p a ha in
    let w = value_rounds f x hx.finite in
    k r (value_fraction e x p (amount a + 0 * 2 ^ 2148) hx n) (result f (round_to_format f x) u m w.0 r hu hm w.1)

word_rounds : (f : Format) (n : ℤ) → (s : Bool) × (of_int f n ≡ round f s (nat_abs n) 1)
unfolding of_int
word_rounds f (pos n) = (false, refl)
word_rounds f (negsuc n) = (true, refl)

pub of_word : (f : Format) (n : ℤ) (d u : ℕ) (m : Option Scaled) (g : Flags) → d ≡ nat_abs n → u ≡ to_bits f (of_int f n)
    → IsMagnitudeOf f (of_bits f u) m
    → Rounds f (d * 2 ^ 2148 + 0 * 2 ^ 2148) m g → g ≡ rounding_flags f (exact_word n)
of_word f n d u m g hd hu hm k =
    let r = exact_word n in
    let e : nat_abs n * 2 ^ 2148 * 1 ≡ (d * 2 ^ 2148 + 0 * 2 ^ 2148) * 1 = omega (arith, ap (λ (x : ℕ). x * 2 ^ 2148) hd) in
    let w = word_rounds f n in
    k r (record { nonzero = omega arith; divisor = omega arith; value = e }) (result f (of_int f n) u m w.0 r hu hm w.1)

pub of_narrowing : (a : ℕ) (p : Scaled) (g : Flags) → is_signaling binary64 a ≡ false → IsMagnitude binary64 (of_bits binary64 a) p
    → g ≡ rounding_flags binary32 (exact_value (of_bits binary64 a)) → g ≡ narrowing_flags a
of_narrowing a p g hs hx k =
    let found = rounding_flags binary32 (exact_value (of_bits binary64 a)) in
    k
    ∙ sym (ap (λ (b : Bool). cond b found no_flags) hx.finite)
    ∙ sym (ap (λ (b : Bool). cond b invalid (cond (float_is_finite (of_bits binary64 a)) found no_flags)) hs)

pub of_whole : (t : Float → Bool) (x v whole : Float) (b : Bool) (g : Flags) → b ≡ t v → v ≡ whole
    → g ≡ (if b then inexact_if (not (eq v x)) else invalid)
    → g ≡ (if t whole then inexact_if (not (eq whole x)) else invalid)
of_whole t x v whole b g hb hv k =
    k ∙ ap (λ (c : Bool). cond c (inexact_if (not (eq v x))) invalid) hb
    ∙ ap (λ (z : Float). cond (t z) (inexact_if (not (eq z x))) invalid) hv
