-- To the nearest, ties to even, an operation here is the library's, and its flags are those of `rv_float_flags`.
use Rattle.std.proofs.Common.{◌≡◌, ℕ, zero, suc, ◌+◌, ◌-◌, ◌*◌, ◌/◌, ◌%◌, ◌^◌, ◌<◌, ◌≤◌, Bool, true, false, cond, not, ◌&&◌, ◌||◌}
use Rattle.std.proofs.Common.{if◌then◌else◌, nat_lt, sym, ap, ◌∙◌, refl, arith, inl, inr}
use Rattle.std.proofs.Math.Nat.{mul-pos, zero-add, zero-mul}
use Rattle.std.proofs.lemmas.Nat.{pow_pos}
use Rattle.std.proofs.lemmas.Bool.{cases_Bool, le-ltb, ltb-false, ltb-true, ne_eqb, true≢false}
use Rattle.std.specs.Float.{float_is_finite, float_is_infinite, float_mul_add, is_sign_negative, round_to_format}
use Rattle.std.specs.Int.{abs_diff}
use Rattle.std.specs.Prelude.{int_lt, nat_abs}
use Rattle.rv_floats.specs.Classes.{is_signaling}
use Rattle.rv_floats.specs.Fused.{multiply_add, multiply_subtract, negated_multiply_add, negated_multiply_subtract}
use Rattle.rv_floats.specs.declared.rounding.Rounding.TheVariants.{NearestEven}
use Rattle.rv_float_flags.specs.Conversions.{exact_word, narrowing_flags}
use Rattle.rv_float_flags.specs.Exact.{Ratio, combined, exact_fused, exact_product, exact_quotient, exact_sum, exact_value}
use Rattle.rv_float_flags.specs.Flags.{divided_by_zero, invalid, invalid_if, no_flags, rounding_flags}
use Rattle.rv_float_flags.specs.Operations.{add_flags, any_signaling, div_flags, fused_flags, is_division_by_zero, is_invalid_fused}
use Rattle.rv_float_flags.specs.Operations.{is_invalid_product, is_invalid_quotient, is_invalid_sum, is_zero, mul_flags, multiply_add_flags}
use Rattle.rv_float_flags.specs.Operations.{multiply_subtract_flags, negated_multiply_add_flags, negated_multiply_subtract_flags}
use Rattle.rv_float_flags.specs.Operations.{product_flags, quotient_flags, root_flags, sqrt_flags, sub_flags, sum_flags}
use Rattle.rv_float_flags.specs.declared.flags.Flags.{Flags}
use Rattle.rv_float_modes.specs.Modes.{bounded, rounding_flags_in, rounding_in, unbounded}
use Rattle.rv_float_modes.specs.Operations.{add_in, div_in, either, exact_root, fused_in, is_nonzero, mul_in, multiply_add_in}
use Rattle.rv_float_modes.specs.Operations.{multiply_subtract_in, narrowed_in, negated_multiply_add_in, negated_multiply_subtract_in}
use Rattle.rv_float_modes.specs.Operations.{product_in, quotient_in, sign_of_sum, sqrt_in, sub_in, sum_in, word_in}
use Rattle.rv_float_modes.specs.declared.rounded.Rounded.{Rounded}
use Rattle.rv_float_modes.proofs.Nearest.{nearest_even}
use Rattle.rv_float_modes.proofs.NearestFlags.{same_flags}
use Rattle.rv_float_modes.proofs.RootFlags.{root_flags_are}
use Rattle.rv_float_modes.proofs.Roundings.{pair}
use Rattle.rv_float_modes.proofs.Sums.{negated_finite}
use lib.Dec.{eqb}
use lib.IntN.{ℤ, pos, negsuc}
use lib.Ieee.{Float, Format, nan, inf, fin, add, binary32, binary64, div, down, emax, eq, hid, is_nan, low, mul, neg, odd, of_bits, of_int}
use lib.Ieee.{prec, round, sqrt, sub, sum, to_bits, top, units, unlike, up}
use lib.Ieee.Bits.{of_bits-fits}
use lib.Ieee.Fits.{round_is}
use lib.Ieee.Positive.{den, den_pos, num}

-- ---- a rounding with a sign

abbrev head : Format → Bool → ℕ
head f s = if s then top f else 0

signed_number : (h k x : ℕ) → h + k + x ≡ h + (0 + k + x)
signed_number h k x = omega arith

signed_infinity : (h n : ℕ) → h + n ≡ h + (0 + n)
signed_infinity h n = omega arith

signed_value : (f : Format) (s b : Bool) (d q k l : ℕ)
    → to_bits f (cond b (odd d s q k l) (inf s)) ≡ head f s + to_bits f (cond b (odd d false q k l) (inf false))
unfolding odd to_bits
signed_value f s true d zero k l = signed_number (head f s) _ _
signed_value f s true d (suc q) k l = signed_number (head f s) _ _
signed_value f s false d q k l = signed_infinity (head f s) _

signed_units : (f : Format) (s : Bool) (q k : ℕ) → to_bits f (units f s q k) ≡ head f s + to_bits f (units f false q k)
unfolding units
signed_units f s q k = signed_value f s (nat_lt (q * 2 ^ k) (2 ^ (low f + suc (emax f)))) (suc (prec f)) q k (low f)

signed_round : (f : Format) (s : Bool) (n d : ℕ) → to_bits f (round f s n d) ≡ head f s + to_bits f (round f false n d)
signed_round f s n d =
    ap (λ (v : Float). to_bits f v) (round_is f s n d)
    ∙ signed_units f s _ _
    ∙ sym (ap (λ (v : Float). head f s + to_bits f v) (round_is f false n d))

agrees : (f : Format) (s : Bool) (r : Ratio) (v : Float) (g : Flags) → 0 < r.denominator → v ≡ round f s r.numerator r.denominator
    → g ≡ rounding_flags f r
    → rounding_in NearestEven s f r ≡ pair (to_bits f v) g
agrees f s r v g h e k =
    let b = bounded NearestEven false f (unbounded NearestEven false f r) in
    let bits : head f s + b ≡ to_bits f v =
    ap (λ (z : ℕ). head f s + z) (sym (zero-add b) ∙ nearest_even f r)
    ∙ sym (signed_round f s r.numerator r.denominator)
    ∙ ap (λ (x : Float). to_bits f x) (sym e)
    in
    ap (λ (z : ℕ). pair z (rounding_flags_in NearestEven false f r)) bits
    ∙ ap (λ (z : Flags). pair (to_bits f v) z) (same_flags f r h ∙ sym k)

-- ---- what is not finite

by_finite : (c : Bool) (w : Rounded) (n : ℕ) (g : Flags) → (c ≡ true → w ≡ pair n g) → either c w n g ≡ pair n g
by_finite true w n g h = h refl
by_finite false w n g h = refl

both : (p q : Bool) → (p && q) ≡ true → (p ≡ true) × (q ≡ true)
both true q h = (refl, h)
both false q h = absurd (true≢false (sym h))

no_nan : (x : Float) → float_is_finite x ≡ true → is_nan x ≡ false
unfolding is_nan float_is_finite
no_nan nan h = absurd (true≢false (sym h))
no_nan (inf s) h = refl
no_nan (fin s m e) h = refl

no_signal : (f : Format) (a : ℕ) → float_is_finite (of_bits f a) ≡ true → is_signaling f a ≡ false
no_signal f a h = ap (λ (b : Bool). b && nat_lt (a % hid f) (hid f / 2)) (no_nan (of_bits f a) h)

no_signals : (f : Format) (a b : ℕ) → float_is_finite (of_bits f a) ≡ true → float_is_finite (of_bits f b) ≡ true
    → any_signaling f a b ≡ false
no_signals f a b h g = ap (λ (x : Bool). x || is_signaling f b) (no_signal f a h) ∙ no_signal f b g

quiet : (s : Bool) (g : Flags) → s ≡ false → (if s then invalid else g) ≡ g
quiet s g h = ap (λ (x : Bool). if x then invalid else g) h

two : (p q : Bool) (g k : Flags) → p ≡ true → q ≡ true → (if p && q then g else k) ≡ g
two p q g k h i = ap (λ (x : Bool). if x && q then g else k) h ∙ ap (λ (x : Bool). if x then g else k) i

-- ---- sums

and_is : (s b : Bool) → (s && b) ≡ (if b then s else false)
and_is true true = refl
and_is true false = refl
and_is false true = refl
and_is false false = refl

apart : (f : Format) (s t : Bool) (a b c : ℕ) → cond (nat_lt a b) (round f t (b - a) c) (round f (s && nat_lt b a) (a - b) c)
    ≡ round f (if nat_lt a b then t else if nat_lt b a then s else false) (abs_diff a b) c
apart f s t a b c =
    let small = if nat_lt b a then s else false in
    let by : Bool → Float = λ (x : Bool). cond x (round f t (b - a) c) (round f (s && nat_lt b a) (a - b) c) in
    let to : Bool → Float = λ (x : Bool). round f (if x then t else small) (abs_diff a b) c in
    elim (cases_Bool (nat_lt a b)) [
      | inl h ↦
          let l : a < b = ltb-true a b h in
          let e : b - a ≡ (a - b) + (b - a) = omega (arith, l) in
          ap by h ∙ ap (λ (n : ℕ). round f t n c) e ∙ sym (ap to h)
      | inr h ↦
          let l : b ≤ a = ltb-false a b h in
          let e : a - b ≡ (a - b) + (b - a) = omega (arith, l) in
          ap by h ∙ ap (λ (n : ℕ). round f (s && nat_lt b a) n c) e ∙ ap (λ (x : Bool). round f x (abs_diff a b) c) (and_is s (nat_lt b a))
          ∙ sym (ap to h)
    ]

sum_is : (f : Format) (s : Bool) (a : ℕ) (t : Bool) (b c : ℕ)
    → sum f s a t b c ≡ round f (sign_of_sum NearestEven s t a b) (combined (unlike s t) a b) c
unfolding sum
sum_is f true a true b c = refl
sum_is f false a false b c = refl
sum_is f true a false b c = apart f true false a b c
sum_is f false a true b c = apart f false true a b c

add_is : (f : Format) (x y : Float) → float_is_finite x ≡ true → float_is_finite y ≡ true → add f x y
    ≡ round f (sign_of_sum NearestEven (is_sign_negative x) (is_sign_negative y) (num x * den y) (num y * den x)) (exact_sum x y).numerator
    (exact_sum x y).denominator
unfolding add float_is_finite is_sign_negative
add_is f nan y h g = absurd (true≢false (sym h))
add_is f (inf s) y h g = absurd (true≢false (sym h))
add_is f (fin s m e) nan h g = absurd (true≢false (sym g))
add_is f (fin s m e) (inf t) h g = absurd (true≢false (sym g))
add_is f (fin s m e) (fin t n d) h g = sum_is f s (m * up e * down d) t (n * up d * down e) (down e * down d)

sum_agrees : (f : Format) (x y : Float) (g : Flags) → float_is_finite x ≡ true → float_is_finite y ≡ true → g ≡ sum_flags f x y
    → sum_in NearestEven f x y ≡ pair (to_bits f (add f x y)) g
sum_agrees f x y g h i k =
    let r = exact_sum x y in
    agrees f _ r (add f x y) g (mul-pos (den_pos x) (den_pos y)) (add_is f x y h i)
    (k ∙ two _ _ (rounding_flags f r) (invalid_if (is_invalid_sum x y)) h i)

pub add_agrees : (f : Format) (a b : ℕ) → add_in NearestEven f a b ≡ pair (to_bits f (add f (of_bits f a) (of_bits f b))) (add_flags f a b)
add_agrees f a b =
    let x = of_bits f a in
    let y = of_bits f b in
    by_finite _ (sum_in NearestEven f x y) (to_bits f (add f x y)) (add_flags f a b)
    (λ c. let h = both _ _ c in sum_agrees f x y (add_flags f a b) h.0 h.1 (quiet _ (sum_flags f x y) (no_signals f a b h.0 h.1)))

pub sub_agrees : (f : Format) (a b : ℕ) → sub_in NearestEven f a b ≡ pair (to_bits f (sub f (of_bits f a) (of_bits f b))) (sub_flags f a b)
unfolding sub
sub_agrees f a b =
    let x = of_bits f a in
    let y = of_bits f b in
    by_finite _ (sum_in NearestEven f x (neg y)) (to_bits f (add f x (neg y))) (sub_flags f a b)
    (λ c. let h = both _ _ c in
    sum_agrees f x (neg y) (sub_flags f a b) h.0 (negated_finite y ∙ h.1) (quiet _ (sum_flags f x (neg y)) (no_signals f a b h.0 h.1)))

-- ---- fused multiply-adds

mul_add_is : (f : Format) (x y z : Float) → float_is_finite x ≡ true → float_is_finite y ≡ true → float_is_finite z ≡ true
    → float_mul_add f x y z
    ≡ round f
    (sign_of_sum NearestEven (unlike (is_sign_negative x) (is_sign_negative y)) (is_sign_negative z) (num x * num y * den z)
    (num z * (den x * den y)))
    (exact_fused x y z).numerator
    (exact_fused x y z).denominator
unfolding float_mul_add float_is_finite is_sign_negative
mul_add_is f nan y z h g k = absurd (true≢false (sym h))
mul_add_is f (inf s) y z h g k = absurd (true≢false (sym h))
mul_add_is f (fin s m e) nan z h g k = absurd (true≢false (sym g))
mul_add_is f (fin s m e) (inf t) z h g k = absurd (true≢false (sym g))
mul_add_is f (fin s m e) (fin t n d) nan h g k = absurd (true≢false (sym k))
mul_add_is f (fin s m e) (fin t n d) (inf v) h g k = absurd (true≢false (sym k))
mul_add_is f (fin s m e) (fin t n d) (fin v l i) h g k =
    sum_is f (unlike s t) (m * up e * (n * up d) * down i) v (l * up i * (down e * down d)) (down e * down d * down i)

fused_agrees : (f : Format) (x y z : Float) (g : Flags) → float_is_finite x ≡ true → float_is_finite y ≡ true → float_is_finite z ≡ true
    → g ≡ fused_flags f x y z → fused_in NearestEven f x y z ≡ pair (to_bits f (float_mul_add f x y z)) g
fused_agrees f x y z g h i j k =
    let r = exact_fused x y z in
    let flags : fused_flags f x y z ≡ rounding_flags f r =
    ap (λ (b : Bool). if b && float_is_finite z then rounding_flags f r else invalid_if (is_invalid_fused f x y z))
    (ap (λ (b : Bool). b && float_is_finite y) h ∙ i)
    ∙ ap (λ (b : Bool). if b then rounding_flags f r else invalid_if (is_invalid_fused f x y z)) j
    in
    agrees f _ r (float_mul_add f x y z) g (mul-pos (mul-pos (den_pos x) (den_pos y)) (den_pos z)) (mul_add_is f x y z h i j) (k ∙ flags)

no_three : (f : Format) (a b c : ℕ) → float_is_finite (of_bits f a) ≡ true → float_is_finite (of_bits f b) ≡ true
    → float_is_finite (of_bits f c) ≡ true
    → (any_signaling f a b || is_signaling f c) ≡ false
no_three f a b c h g k = ap (λ (x : Bool). x || is_signaling f c) (no_signals f a b h g) ∙ no_signal f c k

-- of the values that patterns with other signs have
fused_by : (f : Format) (a b c : ℕ) (x z : Float) (g : Flags) → float_is_finite x ≡ float_is_finite (of_bits f a)
    → float_is_finite z ≡ float_is_finite (of_bits f c)
    → g ≡ (if any_signaling f a b || is_signaling f c then invalid else fused_flags f x (of_bits f b) z)
    → either (float_is_finite (of_bits f a) && float_is_finite (of_bits f b) && float_is_finite (of_bits f c))
    (fused_in NearestEven f x (of_bits f b) z)
    (to_bits f (float_mul_add f x (of_bits f b) z)) g
    ≡ pair (to_bits f (float_mul_add f x (of_bits f b) z)) g
fused_by f a b c x z g p q k =
    by_finite _ (fused_in NearestEven f x (of_bits f b) z) (to_bits f (float_mul_add f x (of_bits f b) z)) g
    (λ t.
    let i = both _ _ t in
    let h = both _ _ i.0 in
    fused_agrees f x (of_bits f b) z g (p ∙ h.0) h.1 (q ∙ i.1)
    (k ∙ quiet _ (fused_flags f x (of_bits f b) z) (no_three f a b c h.0 h.1 i.1)))

pub multiply_add_agrees : (f : Format) (a b c : ℕ) → multiply_add_in NearestEven f a b c
    ≡ pair (to_bits f (multiply_add f (of_bits f a) (of_bits f b) (of_bits f c))) (multiply_add_flags f a b c)
multiply_add_agrees f a b c = fused_by f a b c (of_bits f a) (of_bits f c) (multiply_add_flags f a b c) refl refl refl

pub multiply_subtract_agrees : (f : Format) (a b c : ℕ) → multiply_subtract_in NearestEven f a b c
    ≡ pair (to_bits f (multiply_subtract f (of_bits f a) (of_bits f b) (of_bits f c))) (multiply_subtract_flags f a b c)
multiply_subtract_agrees f a b c =
    fused_by f a b c (of_bits f a) (neg (of_bits f c)) (multiply_subtract_flags f a b c) refl (negated_finite (of_bits f c)) refl

pub negated_multiply_subtract_agrees : (f : Format) (a b c : ℕ) → negated_multiply_subtract_in NearestEven f a b c
    ≡ pair (to_bits f (negated_multiply_subtract f (of_bits f a) (of_bits f b) (of_bits f c))) (negated_multiply_subtract_flags f a b c)
negated_multiply_subtract_agrees f a b c =
    fused_by f a b c (neg (of_bits f a)) (of_bits f c) (negated_multiply_subtract_flags f a b c) (negated_finite (of_bits f a)) refl refl

pub negated_multiply_add_agrees : (f : Format) (a b c : ℕ) → negated_multiply_add_in NearestEven f a b c
    ≡ pair (to_bits f (negated_multiply_add f (of_bits f a) (of_bits f b) (of_bits f c))) (negated_multiply_add_flags f a b c)
negated_multiply_add_agrees f a b c =
    fused_by f a b c (neg (of_bits f a)) (neg (of_bits f c)) (negated_multiply_add_flags f a b c) (negated_finite (of_bits f a))
    (negated_finite (of_bits f c)) refl

-- ---- products

mul_is : (f : Format) (x y : Float) → float_is_finite x ≡ true → float_is_finite y ≡ true
    → mul f x y ≡ round f (unlike (is_sign_negative x) (is_sign_negative y)) (exact_product x y).numerator (exact_product x y).denominator
unfolding mul float_is_finite is_sign_negative
mul_is f nan y h g = absurd (true≢false (sym h))
mul_is f (inf s) y h g = absurd (true≢false (sym h))
mul_is f (fin s m e) nan h g = absurd (true≢false (sym g))
mul_is f (fin s m e) (inf t) h g = absurd (true≢false (sym g))
mul_is f (fin s m e) (fin t n d) h g = refl

pub mul_agrees : (f : Format) (a b : ℕ) → mul_in NearestEven f a b ≡ pair (to_bits f (mul f (of_bits f a) (of_bits f b))) (mul_flags f a b)
mul_agrees f a b =
    let x = of_bits f a in
    let y = of_bits f b in
    let r = exact_product x y in
    by_finite _ (product_in NearestEven f x y) (to_bits f (mul f x y)) (mul_flags f a b)
    (λ c.
    let h = both _ _ c in
    agrees f _ r (mul f x y) (mul_flags f a b) (mul-pos (den_pos x) (den_pos y)) (mul_is f x y h.0 h.1)
    (quiet _ (product_flags f x y) (no_signals f a b h.0 h.1) ∙ two _ _ (rounding_flags f r) (invalid_if (is_invalid_product x y)) h.0 h.1))

-- ---- quotients

div_is : (f : Format) (x y : Float) → float_is_finite x ≡ true → float_is_finite y ≡ true → 0 < num y
    → div f x y ≡ round f (unlike (is_sign_negative x) (is_sign_negative y)) (exact_quotient x y).numerator (exact_quotient x y).denominator
unfolding div float_is_finite is_sign_negative
div_is f nan y h g p = absurd (true≢false (sym h))
div_is f (inf s) y h g p = absurd (true≢false (sym h))
div_is f (fin s m e) nan h g p = absurd (true≢false (sym g))
div_is f (fin s m e) (inf t) h g p = absurd (true≢false (sym g))
div_is f (fin s m e) (fin t n d) h g p =
    ap (λ (b : Bool). cond b (cond (eqb m 0) nan (inf (unlike s t))) (round f (unlike s t) (m * up e * down d) (n * up d * down e)))
    (ne_eqb n 0 (λ z. let a : n * up d ≡ 0 = ap (λ (x : ℕ). x * up d) z ∙ zero-mul (up d) in absurd (omega (arith, a, p))))

not_infinite : (x : Float) → float_is_finite x ≡ true → float_is_infinite x ≡ false
unfolding float_is_finite float_is_infinite
not_infinite nan h = refl
not_infinite (inf s) h = absurd (true≢false (sym h))
not_infinite (fin s m e) h = refl

fails : (p q : Bool) → p ≡ false → (p && q) ≡ false
fails p q h = ap (λ (b : Bool). b && q) h

not_zero : (x : Float) → float_is_finite x ≡ true → 0 < num x → is_zero x ≡ false
unfolding eq float_is_finite
not_zero nan h p = refl
not_zero (inf s) h p = refl
not_zero (fin s m e) h p =
    let a : eqb (m * up e * 1) (0 * 1 * down e) ≡ false =
    ne_eqb (m * up e * 1) (0 * 1 * down e) (λ z. let b : 0 * 1 * down e ≡ 0 = zero-mul (down e) in absurd (omega (arith, z, b, p)))
    in
    fails _ _ a

neither : (p q : Bool) → (p && false || q && false) ≡ false
neither true true = refl
neither true false = refl
neither false true = refl
neither false false = refl

quotient_flags_are : (f : Format) (x y : Float) → float_is_finite x ≡ true → float_is_finite y ≡ true → 0 < num y
    → quotient_flags f x y ≡ rounding_flags f (exact_quotient x y)
quotient_flags_are f x y h g p =
    let r = exact_quotient x y in
    let rest = if float_is_finite x && float_is_finite y then rounding_flags f r else no_flags in
    let z : is_zero y ≡ false = not_zero y g p in
    let i : is_invalid_quotient x y ≡ false =
    ap (λ (b : Bool). (is_zero x && b) || (float_is_infinite x && float_is_infinite y)) z
    ∙ ap (λ (b : Bool). (is_zero x && false) || (float_is_infinite x && b)) (not_infinite y g)
    ∙ neither (is_zero x) (float_is_infinite x)
    in
    let d : is_division_by_zero x y ≡ false = ap (λ (b : Bool). b && is_zero y) h ∙ z in
    ap (λ (b : Bool). if b then invalid else if is_division_by_zero x y then divided_by_zero else rest) i
    ∙ ap (λ (b : Bool). if b then divided_by_zero else rest) d
    ∙ two _ _ (rounding_flags f r) no_flags h g

pub div_agrees : (f : Format) (a b : ℕ) → div_in NearestEven f a b ≡ pair (to_bits f (div f (of_bits f a) (of_bits f b))) (div_flags f a b)
div_agrees f a b =
    let x = of_bits f a in
    let y = of_bits f b in
    let r = exact_quotient x y in
    by_finite _ (quotient_in NearestEven f x y) (to_bits f (div f x y)) (div_flags f a b)
    (λ c.
    let h = both _ _ c in
    let i = both _ _ h.1 in
    let p : 0 < num y = ltb-true 0 (num y) i.1 in
    agrees f _ r (div f x y) (div_flags f a b) (mul-pos p (den_pos x)) (div_is f x y h.0 i.0 p)
    (quiet _ (quotient_flags f x y) (no_signals f a b h.0 i.0) ∙ quotient_flags_are f x y h.0 i.0 p))

-- ---- conversions

value_is : (f : Format) (x : Float) → float_is_finite x ≡ true → round_to_format f x ≡ round f (is_sign_negative x) (num x) (den x)
unfolding round_to_format float_is_finite is_sign_negative
value_is f nan h = absurd (true≢false (sym h))
value_is f (inf s) h = absurd (true≢false (sym h))
value_is f (fin s m e) h = refl

pub narrowed_agrees : (a : ℕ)
    → narrowed_in NearestEven a ≡ pair (to_bits binary32 (round_to_format binary32 (of_bits binary64 a))) (narrowing_flags a)
narrowed_agrees a =
    let x = of_bits binary64 a in
    let r = exact_value x in
    by_finite _ (rounding_in NearestEven (is_sign_negative x) binary32 r) (to_bits binary32 (round_to_format binary32 x))
    (narrowing_flags a)
    (λ h.
    agrees binary32 _ r (round_to_format binary32 x) (narrowing_flags a) (den_pos x) (value_is binary32 x h)
    (quiet _ (if float_is_finite x then rounding_flags binary32 r else no_flags) (no_signal binary64 a h)
    ∙ ap (λ (b : Bool). if b then rounding_flags binary32 r else no_flags) h))

word_is : (n : ℤ) → of_int binary32 n ≡ round binary32 (int_lt n (pos 0)) (nat_abs n) 1
unfolding of_int
word_is (pos n) = ap (λ (s : Bool). round binary32 s n 1) (sym (le-ltb n 0 (omega arith)))
word_is (negsuc n) = refl

pub word_agrees : (n : ℤ) → word_in NearestEven n ≡ pair (to_bits binary32 (of_int binary32 n)) (rounding_flags binary32 (exact_word n))
word_agrees n = agrees binary32 _ (exact_word n) (of_int binary32 n) (rounding_flags binary32 (exact_word n)) (omega arith) (word_is n) refl

-- ---- roots

root_is : (f : Format) (x : Float) → (is_nonzero x && not (is_sign_negative x)) ≡ true
    → sqrt f x ≡ round f false (exact_root x).numerator (exact_root x).denominator
unfolding sqrt float_is_finite is_sign_negative
root_is f nan h = absurd (true≢false (sym h))
root_is f (inf s) h = absurd (true≢false (sym h))
root_is f (fin s zero e) h =
    absurd (let p : 0 < 0 * up e = ltb-true 0 (0 * up e) (both _ _ h).0 in let z : 0 * up e ≡ 0 = zero-mul (up e) in omega (arith, p, z))
root_is f (fin true (suc m) e) h = absurd (true≢false (sym (both _ _ h).1))
root_is f (fin false (suc m) e) h = refl

is_not : (b : Bool) → not b ≡ true → b ≡ false
is_not true h = sym h
is_not false h = refl

pub root_agrees : (f : Format) (a : ℕ) → sqrt_in NearestEven f a ≡ pair (to_bits f (sqrt f (of_bits f a))) (sqrt_flags f a)
root_agrees f a =
    let x = of_bits f a in
    let r = exact_root x in
    by_finite _ (rounding_in NearestEven false f r) (to_bits f (sqrt f x)) (sqrt_flags f a)
    (λ c.
    let h = both _ _ c in
    let i = both _ _ h.0 in
    let e = root_is f x c in
    agrees f false r (sqrt f x) (sqrt_flags f a) (pow_pos 2272) e
    (quiet _ (root_flags f x) (no_signal f a i.0)
    ∙ sym (root_flags_are f x (of_bits-fits f a) i.0 (ltb-true 0 (num x) i.1) (is_not _ h.1) e)))
