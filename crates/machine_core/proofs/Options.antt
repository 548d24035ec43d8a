-- Options and searches that give nothing.
use Rattle.std.proofs.Common.{◌≡◌, Bool, true, false, cond, List, [], ◌∷◌, All, Option, Some, None, option_map, refl}
use Rattle.std.specs.Prelude.{find}
use Rattle.std.specs.Option.{option_or}
use Rattle.std.proofs.lemmas.List.Elements.{All-nil, All-cons}

pub cond_none : {X : Type 0} (b : Bool) (x : X) (o : Option X) → cond b (Some x) o ≡ None → (b ≡ false) × (o ≡ None)
cond_none true x o none = absurd cc
cond_none false x o none = (refl, none)

pub option_or_none : {X : Type 0} (a b : Option X) → option_or a b ≡ None → (a ≡ None) × (b ≡ None)
option_or_none None b none = (refl, none)
option_or_none (Some x) b none = absurd cc

pub option_map_none : {X Y : Type 0} (f : X → Y) (o : Option X) → option_map f o ≡ None → o ≡ None
option_map_none f None none = refl
option_map_none f (Some x) none = absurd cc

-- where nothing is found that passes, no element does
pub find_none : {X : Type 0} (p : X → Bool) (xs : List X) → find p xs ≡ None → All (λ x. p x ≡ false) xs
find_none p [] none = All-nil _
find_none p (x ∷ xs) none =
    let here = cond_none (p x) x (find p xs) none in
    All-cons (λ y. p y ≡ false) x xs here.0 (find_none p xs here.1)

-- an option that is no value is none
pub none_from : {X : Type 0} (o : Option X) → ((x : X) → o ≡ Some x → ⊥) → o ≡ None
none_from None no_value = refl
none_from (Some x) no_value = absurd (no_value x refl)
