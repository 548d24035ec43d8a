-- The minimum and the maximum of two numbers is one of their patterns.
use Rattle.std.proofs.Common.{◌≡◌, ℕ, ◌*◌, ◌%◌, ◌<◌, ◌≤◌, Bool, true, false, not, ap, sym, ◌∙◌, subst}
use Rattle.std.proofs.lemmas.Bool.{le-ltb}
use Rattle.std.specs.Prelude.{if◌then◌else◌}
use Rattle.rv_floats.specs.Comparisons.{is_before, maximum, minimum}
use lib.Dec.{T}
use lib.Ieee.{Format, hid, is_nan, nan_bits, of_bits, ones, to_bits, top}
use lib.Ieee.Bits.{nan_bits_above, nan_bits_is, to_bits-of_bits}

pub number : (f : Format) (a : ℕ) → a % top f ≤ ones f * hid f → is_nan (of_bits f a) ≡ false
number f a l = sym (nan_bits_is f a) ∙ nan_bits_above f a ∙ le-ltb (ones f * hid f) (a % top f) l

pub number_pattern : (f : Format) (a : ℕ) → a % top f ≤ ones f * hid f → T (not (nan_bits f a))
number_pattern f a l = subst (λ (n : Bool). T (not n)) (sym (nan_bits_above f a ∙ le-ltb (ones f * hid f) (a % top f) l)) tt

chosen : (f : Format) (a b : ℕ) (s : Bool) → a < 2 * top f → b < 2 * top f → a % top f ≤ ones f * hid f → b % top f ≤ ones f * hid f
    → (if s then b else a) ≡ to_bits f (if s then of_bits f b else of_bits f a)
chosen f a b true p q l m = sym (to_bits-of_bits f b q (subst (λ (n : Bool). T (not n)) (sym (number f b m)) tt))
chosen f a b false p q l m = sym (to_bits-of_bits f a p (subst (λ (n : Bool). T (not n)) (sym (number f a l)) tt))

pub least : (f : Format) (a b c : ℕ) (s : Bool) → a < 2 * top f → b < 2 * top f → a % top f ≤ ones f * hid f → b % top f ≤ ones f * hid f
    → s ≡ is_before (of_bits f b) (of_bits f a) → c ≡ (if s then b else a) → c ≡ to_bits f (minimum (of_bits f a) (of_bits f b))
least f a b c s p q l m is of = of ∙ chosen f a b s p q l m ∙ sym (
    ap (λ (n : Bool). to_bits f
    (if n then of_bits f b else if is_nan (of_bits f b) then of_bits f a else if is_before (of_bits f b) (of_bits f a) then of_bits f b
    else of_bits f a)) (number f a l)
    ∙ ap (λ (n : Bool). to_bits f (if n then of_bits f a else if is_before (of_bits f b) (of_bits f a) then of_bits f b else of_bits f a))
    (number f b m)
    ∙ ap (λ (n : Bool). to_bits f (if n then of_bits f b else of_bits f a)) (sym is))

pub greatest : (f : Format) (a b c : ℕ) (s : Bool) → a < 2 * top f → b < 2 * top f → a % top f ≤ ones f * hid f → b % top f ≤ ones f * hid f
    → s ≡ is_before (of_bits f a) (of_bits f b) → c ≡ (if s then b else a) → c ≡ to_bits f (maximum (of_bits f a) (of_bits f b))
greatest f a b c s p q l m is of = of ∙ chosen f a b s p q l m ∙ sym (
    ap (λ (n : Bool). to_bits f
    (if n then of_bits f b else if is_nan (of_bits f b) then of_bits f a else if is_before (of_bits f a) (of_bits f b) then of_bits f b
    else of_bits f a)) (number f a l)
    ∙ ap (λ (n : Bool). to_bits f (if n then of_bits f a else if is_before (of_bits f a) (of_bits f b) then of_bits f b else of_bits f a))
    (number f b m)
    ∙ ap (λ (n : Bool). to_bits f (if n then of_bits f b else of_bits f a)) (sym is))
