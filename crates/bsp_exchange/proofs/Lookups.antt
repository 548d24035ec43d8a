-- What a slice's `get` and a comparison of shapes return, as the definitions say it.
use Rattle.std.proofs.Common.{◌≡◌, ◌↔◌, ℕ, Bool, nat_eq, List, length, Option, Some, None, Bor, refl, sym, ap, ap₂, ◌∙◌, option_copied}
use Rattle.std.proofs.Common.{slice_get}
use Rattle.std.specs.Prelude.{IsTrue}
use Rattle.std.specs.Bool.{Decides}
use Rattle.std.specs.Option.{option_eq}
use Rattle.std.specs.Slice.{IsItemAt}
use Rattle.std.specs.Cmp.Lexicographic.{pointwise}
use Rattle.std.proofs.lemmas.Bool.{false≢true}
use Rattle.std.proofs.lemmas.Bool.Decides.{same_from_decides, Decides-eqb}
use Rattle.std.proofs.lemmas.Option.{none-some, same_Some, slice_get_read, slice_get_past}
use Rattle.std.proofs.lemmas.Slice.Eq.{slice_eq-Decides}
use Rattle.bsp_slots.specs.Registrations.{Registrations, shape, HasSameShape}

-- what `get` lends is the element at the place
pub element_got : {X : Type 0} (xs : List X) (i : ℕ) (r : Option (Bor X)) → IsItemAt xs i r → option_copied r ≡ slice_get xs i
element_got xs i None is = sym (slice_get_past xs i is.3)
element_got xs i (Some x) is = sym (slice_get_read xs (length xs) i x.now refl is.3.0 is.1)

Decides-positions : (a b : Option ℕ) → Decides (option_eq nat_eq a b) (a ≡ b)
Decides-positions None None = (λ _. refl, λ _. refl)
Decides-positions None (Some y) = (λ e. absurd (false≢true e), λ e. absurd (none-some y e))
Decides-positions (Some x) None = (λ e. absurd (false≢true e), λ e. absurd (none-some x (sym e)))
Decides-positions (Some x) (Some y) = (λ e. ap Some ((Decides-eqb x y).0 e), λ e. (Decides-eqb x y).1 (same_Some x y e))

-- what is true exactly where two shapes are one is their comparison
pub shapes_compared : (s t a b : Registrations) (r : Bool) → s ≡ a → t ≡ b → (IsTrue r ↔ HasSameShape s t)
    → r ≡ pointwise (option_eq nat_eq) (shape a) (shape b)
shapes_compared s t a b r first second is =
    same_from_decides r (pointwise (option_eq nat_eq) (shape s) (shape t)) is
    (slice_eq-Decides Decides-positions (shape s) (shape t) _ refl)
    ∙ ap₂ (λ (x y : Registrations). pointwise (option_eq nat_eq) (shape x) (shape y)) first second
