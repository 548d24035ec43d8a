-- What `find` finds in a list.
use Rattle.std.proofs.Common.{◌≡◌, zero, suc, Bool, true, List, [], ◌∷◌, map, Some, refl, arith, inl, inr}
use Rattle.std.specs.List.{Contains, find, list_all}
use Rattle.std.specs.Option.{option_map}
use Rattle.std.proofs.lemmas.Bool.{cases_Bool, and_parts}
use Rattle.std.proofs.lemmas.Option.{same_Some}

-- what is found is in the list and passes
pub find-found : {X : Type 0} (p : X → Bool) (xs : List X) (y : X) → find p xs ≡ Some y → Contains xs y × (p y ≡ true)
find-found p [] y h = cc
find-found p (x ∷ xs) y h =
    elim (cases_Bool (p x)) [
      | inl passes ↦
          let here : x ≡ y = same_Some x y (rw passes at h) in
          ((0, omega arith, here), rw (← here) passes)
      | inr fails ↦
          let rest = find-found p xs y (rw fails at h) in
          ((suc rest.0.0, omega (arith, rest.0.1), rest.0.2), rest.1)
    ]

-- something is found where an element passes
pub find-finds : {X : Type 0} (p : X → Bool) (xs : List X) (x : X) → Contains xs x → p x ≡ true → (y : X) × (find p xs ≡ Some y)
find-finds p [] x listed h = absurd (omega (arith, listed.1))
find-finds p (z ∷ xs) x (zero, within, at) h = (x, rw at (rw h refl))
find-finds p (z ∷ xs) x (suc k, within, at) h =
    elim (cases_Bool (p z)) [
      | inl passes ↦ (z, rw passes refl)
      | inr fails ↦ let rest = find-finds p xs x (k, omega (arith, within), at) h in (rest.0, rw fails rest.1)
    ]

-- the first that passes one of two tests that agree where a third passes
pub find-agree : {X : Type 0} (p q all : X → Bool) (xs : List X) → ((x : X) → all x ≡ true → p x ≡ q x) → list_all all xs ≡ true
    → find p xs ≡ find q xs
find-agree p q all [] same h = refl
find-agree p q all (x ∷ xs) same h =
    let parts = and_parts (all x) (list_all all xs) h in
    let head = same x parts.0 in
    let rest = find-agree p q all xs same parts.1 in
    rw (head, rest)

pub find-map : {A B : Type 0} (f : A → B) (p : B → Bool) (xs : List A) → find p (map f xs) ≡ option_map f (find (λ x. p (f x)) xs)
find-map f p [] = refl
find-map f p (x ∷ xs) =
    elim (cases_Bool (p (f x))) [ inl passes ↦ rw passes refl | inr fails ↦ rw fails (find-map f p xs) ]
