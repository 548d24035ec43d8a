-- In both formats: operands of which it is known at once that an operation raises no new flags are numbers, so is the result, and it raises
-- none.
use Rattle.std.proofs.Common.{◌≡◌, ℕ, Bool, true, false, not, ◌&&◌, arith, refl, sym}
use Rattle.std.proofs.lemmas.Bool.{and_parts}
use Rattle.std.proofs.lemmas.Float.{not_nan_f32_bits}
use Rattle.std.specs.Float.{float_zero}
use Rattle.rv_float_flags.specs.Flags.{accrued}
use Rattle.rv_float_flags.specs.NoNewFlags.{is_finite, is_single_finite, product_raises_no_new_flags, quotient_raises_no_new_flags}
use Rattle.rv_float_flags.specs.NoNewFlags.{root_raises_no_new_flags, sum_raises_no_new_flags}
use Rattle.rv_float_flags.specs.Operations.{add_flags, div_flags, mul_flags, sqrt_flags, sub_flags}
use Rattle.rv_float_flags.specs.declared.flags.Flags.{Flags}
use Rattle.rv_float_flags.proofs.FiniteResults.{difference_no_nan, finite, pattern_no_nan, product_no_nan, sum_no_nan}
use Rattle.rv_float_flags.proofs.NoNewFlagsDouble as Double
use Rattle.rv_float_flags.proofs.NoNewFlagsSingle as Single
use Rattle.rv_float_flags.proofs.Quotients.{both_normal, normal_below, quotient, quotient_no_nan}
use Rattle.rv_float_flags.proofs.Singles as Singles
use lib.Dec.{T}
use lib.Ieee.{Format, add, binary32, binary64, div, is_nan, lt, mul, nan_bits, of_bits, sub}

abbrev pub AreNumbers : Format → ℕ → ℕ → Type 0
AreNumbers f a b = T (not (nan_bits f a)) × T (not (nan_bits f b))

-- ---- sums and differences

pub sum_operands : (f : Format) (g : Flags) (a b : ℕ) → sum_raises_no_new_flags f g a b ≡ true → AreNumbers f a b
sum_operands binary32 g a b none =
    let below = Single.sum_below g a b none in
    (not_nan_f32_bits a (omega (arith, below.0)), not_nan_f32_bits b (omega (arith, below.1)))
sum_operands binary64 g a b none =
    let below = Double.sum_below g a b none in
    (pattern_no_nan a below.0, pattern_no_nan b below.1)

pub sum_number : (f : Format) (g : Flags) (a b : ℕ) → sum_raises_no_new_flags f g a b ≡ true
    → T (not (is_nan (add f (of_bits f a) (of_bits f b))))
sum_number binary32 g a b none =
    let below = Single.sum_below g a b none in
    sum_no_nan binary32 _ _ (Singles.finite a below.0).magnitude.finite (Singles.finite b below.1).magnitude.finite
sum_number binary64 g a b none =
    let below = Double.sum_below g a b none in
    sum_no_nan binary64 _ _ (finite a below.0).magnitude.finite (finite b below.1).magnitude.finite

pub difference_number : (f : Format) (g : Flags) (a b : ℕ) → sum_raises_no_new_flags f g a b ≡ true
    → T (not (is_nan (sub f (of_bits f a) (of_bits f b))))
difference_number binary32 g a b none =
    let below = Single.sum_below g a b none in
    difference_no_nan binary32 _ _ (Singles.finite a below.0).magnitude.finite (Singles.finite b below.1).magnitude.finite
difference_number binary64 g a b none =
    let below = Double.sum_below g a b none in
    difference_no_nan binary64 _ _ (finite a below.0).magnitude.finite (finite b below.1).magnitude.finite

pub sum_flags_there : (f : Format) (g : Flags) (a b : ℕ) → sum_raises_no_new_flags f g a b ≡ true → accrued g (add_flags f a b) ≡ g
sum_flags_there binary32 g a b none = Single.sum_raises_none g a b _ none refl
sum_flags_there binary64 g a b none = Double.sum_raises_none g a b _ none refl

pub difference_flags_there : (f : Format) (g : Flags) (a b : ℕ) → sum_raises_no_new_flags f g a b ≡ true → accrued g (sub_flags f a b) ≡ g
difference_flags_there binary32 g a b none = Single.difference_raises_none g a b _ none refl
difference_flags_there binary64 g a b none = Double.difference_raises_none g a b _ none refl

-- ---- products

pub product_operands : (f : Format) (g : Flags) (a b : ℕ) → product_raises_no_new_flags f g a b ≡ true → AreNumbers f a b
product_operands binary32 g a b none =
    let below = Single.product_below g a b none in
    (not_nan_f32_bits a (omega (arith, below.0)), not_nan_f32_bits b (omega (arith, below.1)))
product_operands binary64 g a b none =
    let below = Double.product_below g a b none in
    (pattern_no_nan a below.0, pattern_no_nan b below.1)

pub product_number : (f : Format) (g : Flags) (a b : ℕ) → product_raises_no_new_flags f g a b ≡ true
    → T (not (is_nan (mul f (of_bits f a) (of_bits f b))))
product_number binary32 g a b none =
    let below = Single.product_below g a b none in
    product_no_nan binary32 _ _ (Singles.finite a below.0).magnitude.finite (Singles.finite b below.1).magnitude.finite
product_number binary64 g a b none =
    let below = Double.product_below g a b none in
    product_no_nan binary64 _ _ (finite a below.0).magnitude.finite (finite b below.1).magnitude.finite

pub product_flags_there : (f : Format) (g : Flags) (a b : ℕ) → product_raises_no_new_flags f g a b ≡ true → accrued g (mul_flags f a b) ≡ g
product_flags_there binary32 g a b none = Single.product_raises_none g a b _ none refl
product_flags_there binary64 g a b none = Double.product_raises_none g a b _ none refl

-- ---- quotients

pub quotient_operands : (f : Format) (g : Flags) (a b : ℕ) → quotient_raises_no_new_flags f g a b ≡ true → AreNumbers f a b
quotient_operands binary32 g a b none =
    let middling = Single.both_middling g a b none in
    let first = Single.middling_below a middling.0 in
    let second = Single.middling_below b middling.1 in
    (not_nan_f32_bits a (omega (arith, first)), not_nan_f32_bits b (omega (arith, second)))
quotient_operands binary64 g a b none =
    let normal = both_normal g a b none in
    (pattern_no_nan a (normal_below a normal.0), pattern_no_nan b (normal_below b normal.1))

pub quotient_number : (f : Format) (g : Flags) (a b : ℕ) → quotient_raises_no_new_flags f g a b ≡ true
    → T (not (is_nan (div f (of_bits f a) (of_bits f b))))
quotient_number binary32 g a b none =
    let middling = Single.both_middling g a b none in
    Singles.quotient_no_nan a b (Single.middling_so a middling.0) (Single.middling_so b middling.1)
quotient_number binary64 g a b none =
    let normal = both_normal g a b none in
    quotient_no_nan a b normal.0 normal.1

pub quotient_flags_there : (f : Format) (g : Flags) (a b : ℕ) → quotient_raises_no_new_flags f g a b ≡ true
    → accrued g (div_flags f a b) ≡ g
quotient_flags_there binary32 g a b none = Single.quotient_raises_none g a b _ none refl
quotient_flags_there binary64 g a b none = quotient g a b none

-- ---- roots

not_true : (b : Bool) → not b ≡ true → b ≡ false
not_true true h = sym h
not_true false h = refl

pub root_flags_there : (f : Format) (g : Flags) (a : ℕ) → root_raises_no_new_flags f g a ≡ true → accrued g (sqrt_flags f a) ≡ g
root_flags_there binary32 g a none =
    let last = and_parts (g.nx && is_single_finite a) (not (lt (of_bits binary32 a) float_zero)) none in
    let first = and_parts g.nx (is_single_finite a) last.0 in
    Single.root_raises_none g a first.0 first.1 (not_true _ last.1)
root_flags_there binary64 g a none =
    let last = and_parts (g.nx && is_finite a) (not (lt (of_bits binary64 a) float_zero)) none in
    let first = and_parts g.nx (is_finite a) last.0 in
    Double.root_raises_none g a first.0 first.1 (not_true _ last.1)
