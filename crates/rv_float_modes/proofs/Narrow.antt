-- The patterns of results are no wider than their format: those of singles have 32 bits.
use Rattle.std.proofs.Common.{ℕ, ◌+◌, ◌-◌, ◌*◌, ◌^◌, ◌<◌, ◌≤◌, Bool, true, false, cond, ◌&&◌, if◌then◌else◌, nat_lt, ap, sym, subst, arith}
use Rattle.std.proofs.Common.{inl, inr}
use Rattle.std.proofs.lemmas.Bool.{cases_Bool, ltb-true}
use Rattle.std.specs.Float.{float_mul_add, round_to_format}
use Rattle.rv_floats.specs.declared.rounding.Rounding.{Rounding}
use Rattle.rv_float_flags.specs.Exact.{Ratio}
use Rattle.rv_float_flags.specs.Operations.{sqrt_flags}
use Rattle.rv_float_flags.specs.declared.flags.Flags.{Flags}
use Rattle.rv_float_modes.specs.Modes.{bounded, goes_to_infinity, infinity, rounding_in, unbounded, with_sign}
use Rattle.rv_float_modes.specs.Operations.{add_in, div_in, either, exact_root, mul_in, multiply_add_in, multiply_subtract_in, narrowed_in}
use Rattle.rv_float_modes.specs.Operations.{negated_multiply_add_in, negated_multiply_subtract_in, sqrt_in, sub_in, word_in}
use mathlib.Core.Bool.{beq}
use lib.Dec.{T}
use lib.IntN.{ℤ}
use lib.Ieee.{Float, Format, nan, inf, fin, binary32, binary64, down, fits, mul, of_bits, round, sqrt, sum, top, unlike, up}
use lib.Ieee.Bits.{to_bits-lt}
use lib.Ieee.Fits.{add-fits, cond-fits, div-fits, inf-fits, mul-fits, nan-fits, round-fits, sqrt-fits, sub-fits}

-- ---- what is rounded

-- what stands for a pattern past the largest finite value
abbrev past : Format → Bool → ℕ
past f b = if b then infinity f else infinity f - 1

past_narrow : (f : Format) (b : Bool) → past f b ≤ infinity f
past_narrow f true = omega arith
past_narrow f false = omega arith

bounded_narrow : (f : Format) (mode : Rounding) (s : Bool) (p : ℕ) → bounded mode s f p ≤ infinity f
bounded_narrow f mode s p =
    let by : Bool → ℕ = λ (b : Bool). if b then p else past f (goes_to_infinity mode s) in
    elim (cases_Bool (nat_lt p (infinity f))) [
      | inl h ↦ let l : p < infinity f = ltb-true p (infinity f) h in subst (λ (z : ℕ). z ≤ infinity f) (sym (ap by h)) (omega (arith, l))
      | inr h ↦ subst (λ (z : ℕ). z ≤ infinity f) (sym (ap by h)) (past_narrow f (goes_to_infinity mode s))
    ]

signed_narrow : (f : Format) (s : Bool) (p : ℕ) → p ≤ infinity f → with_sign f s p < 2 * top f
signed_narrow binary32 true p h = omega (arith, h)
signed_narrow binary32 false p h = omega (arith, h)
signed_narrow binary64 true p h = omega (arith, h)
signed_narrow binary64 false p h = omega (arith, h)

pub rounding_narrow : (f : Format) (mode : Rounding) (s : Bool) (r : Ratio) → (rounding_in mode s f r).bits < 2 * top f
rounding_narrow f mode s r = signed_narrow f s _ (bounded_narrow f mode s (unbounded mode s f r))

either_narrow : (f : Format) (b : Bool) (mode : Rounding) (s : Bool) (r : Ratio) (n : ℕ) (g : Flags) → n < 2 * top f
    → (either b (rounding_in mode s f r) n g).bits < 2 * top f
either_narrow f true mode s r n g h = rounding_narrow f mode s r
either_narrow f false mode s r n g h = h

-- ---- what is not

sum-fits : (f : Format) (s : Bool) (a : ℕ) (t : Bool) (b c : ℕ) → T (fits f (sum f s a t b c))
unfolding sum
sum-fits f s a t b c =
    let less = round f t (b - a) c in
    let more = round f (s && nat_lt b a) (a - b) c in
    cond-fits f (beq s t) (round f s (a + b) c) (cond (nat_lt a b) less more) (round-fits f s (a + b) c)
    (cond-fits f (nat_lt a b) less more (round-fits f t (b - a) c) (round-fits f (s && nat_lt b a) (a - b) c))

fused-fits : (f : Format) (x y z : Float) → T (fits f (float_mul_add f x y z))
unfolding float_mul_add
fused-fits f nan y z = nan-fits f
fused-fits f (inf s) y z = add-fits f (mul f (inf s) y) z
fused-fits f (fin s m e) nan z = nan-fits f
fused-fits f (fin s m e) (inf t) z = add-fits f (mul f (fin s m e) (inf t)) z
fused-fits f (fin s m e) (fin t n d) nan = nan-fits f
fused-fits f (fin s m e) (fin t n d) (inf u) = inf-fits f u
fused-fits f (fin s m e) (fin t n d) (fin u k g) =
    sum-fits f (unlike s t) (m * up e * (n * up d) * down g) u (k * up g * (down e * down d)) (down e * down d * down g)

format-fits : (f : Format) (x : Float) → T (fits f (round_to_format f x))
unfolding round_to_format
format-fits f nan = nan-fits f
format-fits f (inf s) = inf-fits f s
format-fits f (fin s m e) = round-fits f _ _ _

-- ---- operations

pub add_narrow : (f : Format) (mode : Rounding) (a b : ℕ) → (add_in mode f a b).bits < 2 * top f
add_narrow f mode a b = either_narrow f _ mode _ _ _ _ (to_bits-lt f _ (add-fits f _ _))

pub sub_narrow : (f : Format) (mode : Rounding) (a b : ℕ) → (sub_in mode f a b).bits < 2 * top f
sub_narrow f mode a b = either_narrow f _ mode _ _ _ _ (to_bits-lt f _ (sub-fits f _ _))

pub mul_narrow : (f : Format) (mode : Rounding) (a b : ℕ) → (mul_in mode f a b).bits < 2 * top f
mul_narrow f mode a b = either_narrow f _ mode _ _ _ _ (to_bits-lt f _ (mul-fits f _ _))

pub div_narrow : (f : Format) (mode : Rounding) (a b : ℕ) → (div_in mode f a b).bits < 2 * top f
div_narrow f mode a b = either_narrow f _ mode _ _ _ _ (to_bits-lt f _ (div-fits f _ _))

pub sqrt_narrow : (f : Format) (mode : Rounding) (a : ℕ) → (sqrt_in mode f a).bits < 2 * top f
sqrt_narrow f mode a =
    let x = of_bits f a in
    either_narrow f _ mode false (exact_root x) _ (sqrt_flags f a) (to_bits-lt f (sqrt f x) (sqrt-fits f x))

pub multiply_add_narrow : (f : Format) (mode : Rounding) (a b c : ℕ) → (multiply_add_in mode f a b c).bits < 2 * top f
multiply_add_narrow f mode a b c = either_narrow f _ mode _ _ _ _ (to_bits-lt f _ (fused-fits f _ _ _))

pub multiply_subtract_narrow : (f : Format) (mode : Rounding) (a b c : ℕ) → (multiply_subtract_in mode f a b c).bits < 2 * top f
multiply_subtract_narrow f mode a b c = either_narrow f _ mode _ _ _ _ (to_bits-lt f _ (fused-fits f _ _ _))

pub negated_multiply_subtract_narrow : (f : Format) (mode : Rounding) (a b c : ℕ)
    → (negated_multiply_subtract_in mode f a b c).bits < 2 * top f
negated_multiply_subtract_narrow f mode a b c = either_narrow f _ mode _ _ _ _ (to_bits-lt f _ (fused-fits f _ _ _))

pub negated_multiply_add_narrow : (f : Format) (mode : Rounding) (a b c : ℕ) → (negated_multiply_add_in mode f a b c).bits < 2 * top f
negated_multiply_add_narrow f mode a b c = either_narrow f _ mode _ _ _ _ (to_bits-lt f _ (fused-fits f _ _ _))

-- ---- conversions

pub narrowed_narrow : (mode : Rounding) (a : ℕ) → (narrowed_in mode a).bits < 2 ^ 32
narrowed_narrow mode a = either_narrow binary32 _ mode _ _ _ _ (to_bits-lt binary32 _ (format-fits binary32 _))

pub word_narrow : (mode : Rounding) (n : ℤ) → (word_in mode n).bits < 2 ^ 32
word_narrow mode n = rounding_narrow binary32 mode _ _
