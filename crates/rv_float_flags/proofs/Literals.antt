-- The bounds of words, and zero, as the code writes them in either format.
use Rattle.std.proofs.Common.{◌≡◌, Bool, true, false, ◌&&◌, ap, sym, ◌∙◌, refl}
use Rattle.std.specs.Float.{float_zero, minus_one, minus_two_to, two_to}
use lib.Count.{count_trailing_zeros}
use lib.Dec.{T}
use lib.IntN.{ℤ, pos, negsuc}
use lib.Ieee.{Float, Format, add, binary32, binary64, climb, fits, odd, of_bits, of_int, round, size, span, sum, to_bits, units}
use lib.Ieee.Bits.{of_bits-to_bits}
use lib.Ieee.Fits.{add-fits, round-fits}

word_fits : (f : Format) (n : ℤ) → T (fits f (of_int f n))
unfolding of_int
word_fits f (pos n) = round-fits f false n 1
word_fits f (negsuc n) = round-fits f true _ 1

-- the pattern of a word stands for it
pub of_word : (f : Format) (n : ℤ) (v : Float) → of_int f n ≡ v → of_bits f (to_bits f (of_int f n)) ≡ v
of_word f n v is = of_bits-to_bits f (of_int f n) (word_fits f n) ∙ is

pub zero_word : (f : Format) → of_int f (pos 0) ≡ float_zero
unfolding of_int round size span climb units odd count_trailing_zeros
zero_word binary32 = refl
zero_word binary64 = refl

pub word_limit : (f : Format) → of_int f (pos 2147483648) ≡ two_to 31
unfolding of_int round size span climb units odd count_trailing_zeros
word_limit binary32 = refl
word_limit binary64 = refl

pub least_word : (f : Format) → of_int f (negsuc 2147483647) ≡ minus_two_to 31
unfolding of_int round size span climb units odd count_trailing_zeros
least_word binary32 = refl
least_word binary64 = refl

pub below_zero : (f : Format) → of_int f (negsuc 0) ≡ minus_one
unfolding of_int round size span climb units odd count_trailing_zeros
below_zero binary32 = refl
below_zero binary64 = refl

twice_limit : (f : Format) → add f (two_to 31) (two_to 31) ≡ two_to 32
unfolding add sum round size span climb units odd count_trailing_zeros
twice_limit binary32 = refl
twice_limit binary64 = refl

pub of_twice : (f : Format) (v : Float) → v ≡ two_to 31 → of_bits f (to_bits f (add f v v)) ≡ two_to 32
of_twice f v is = of_bits-to_bits f (add f v v) (add-fits f v v) ∙ ap (λ (x : Float). add f x x) is ∙ twice_limit f

-- two tests with bounds, of which the first passed, and of which it did not
pub passed : (t u : Float → Bool) (a b c d : Float) → a ≡ c → b ≡ d → t a ≡ true → u b ≡ t c && u d
passed t u a b c d e f h = ap u f ∙ sym (ap (λ (x : Bool). x && u d) (sym (ap t e) ∙ h))

pub stopped : (t u : Float → Bool) (a c d : Float) → a ≡ c → t a ≡ false → t a ≡ t c && u d
stopped t u a c d e h = h ∙ sym (ap (λ (x : Bool). x && u d) (sym (ap t e) ∙ h))
