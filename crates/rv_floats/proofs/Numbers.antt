-- Of NaNs: which patterns are none, and what a comparison with one gives.
use Rattle.std.proofs.Common.{◌≡◌, ℕ, Bool, true, false, not, T, sym, ◌∙◌, refl, subst}
use Rattle.std.proofs.lemmas.Bool.{true≢false}
use lib.Ieee.{Float, Format, nan, inf, fin, eq, is_nan, nan_bits, of_bits}
use lib.Ieee.Bits.{nan_bits_is}

pub pattern_of_number : (f : Format) (a : ℕ) → is_nan (of_bits f a) ≡ false → T (not (nan_bits f a))
pattern_of_number f a h = subst (λ (b : Bool). T (not b)) (sym (nan_bits_is f a ∙ h)) tt

pub number_of_pattern : (f : Format) (a : ℕ) → T (not (nan_bits f a)) → T (not (is_nan (of_bits f a)))
number_of_pattern f a h = subst (λ (b : Bool). T (not b)) (nan_bits_is f a) h

pub nan_equals_none : (x y : Float) → is_nan x ≡ true → eq x y ≡ false
unfolding is_nan eq
nan_equals_none nan y h = refl
nan_equals_none (inf s) y h = absurd (true≢false (sym h))
nan_equals_none (fin s m e) y h = absurd (true≢false (sym h))

pub none_equals_nan : (x y : Float) → is_nan y ≡ true → eq x y ≡ false
unfolding is_nan eq
none_equals_nan nan y h = refl
none_equals_nan (inf s) nan h = refl
none_equals_nan (fin s m e) nan h = refl
none_equals_nan x (inf t) h = absurd (true≢false (sym h))
none_equals_nan x (fin t n d) h = absurd (true≢false (sym h))
