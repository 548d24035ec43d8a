-- Lemmas on two sequences of pushes and pops that agree but for areas and addresses.
use Rattle.std.proofs.Common.{◌≡◌, ◌≢◌, ◌↔◌, ℕ, zero, suc, ◌<◌, Bool, true, false, List, [], ◌∷◌, length, map, MatchBool, refl, ap₂, arith}
use Rattle.std.specs.Prelude.{IsTrue, HoldsAt, zip}
use Rattle.std.specs.List.{AllWithin}
use Rattle.std.proofs.lemmas.Bool.{false≢true}
use Rattle.std.proofs.lemmas.Grind.{common_steps}
use Rattle.std.proofs.lemmas.List.Edits.{length-remove}
use Rattle.bsp_slots.specs.declared.area.Area.{Area}
use Rattle.bsp_slots.specs.declared.change.Change.{Change}
use Rattle.bsp_slots.specs.declared.change.Change.TheVariants.{Push, Pop}
use Rattle.bsp_slots.specs.Change.{changed, removed_position, NamesRemoval, NamesRemovals}
use Rattle.bsp_slots.specs.Registrations.{registrations_after}
use Rattle.bsp_slots.proofs.Positions.{IsLastEntry-from}

-- two changes that count the same, and two that do not
abbrev pub IsAlike : Change × Change → Type 0
IsAlike p = removed_position p.0 ≡ removed_position p.1

abbrev pub Differs : Change × Change → Type 0
Differs p = removed_position p.0 ≢ removed_position p.1

same_shape_from_pairs : (xs ys : List Change) → length xs ≡ length ys → AllWithin IsAlike (zip xs ys) 0 (length (zip xs ys))
    → map removed_position xs ≡ map removed_position ys
same_shape_from_pairs [] [] long alike = refl
same_shape_from_pairs [] (y ∷ ys) long alike = absurd (omega arith)
same_shape_from_pairs (x ∷ xs) [] long alike = absurd (omega arith)
same_shape_from_pairs (x ∷ xs) (y ∷ ys) long alike =
    ap₂ ◌∷◌ (alike 0 (x, y) (omega arith) (omega arith))
    (same_shape_from_pairs xs ys (omega arith) (λ k d from within. alike (suc k) d (omega arith) (omega arith)))

other_shape_from_pair : (xs ys : List Change) (k : ℕ) → k < length (zip xs ys) → HoldsAt Differs (zip xs ys) k
    → map removed_position xs ≢ map removed_position ys
other_shape_from_pair [] ys k within differs same = absurd (omega arith)
other_shape_from_pair (x ∷ xs) [] k within differs same = absurd (omega arith)
other_shape_from_pair (x ∷ xs) (y ∷ ys) zero within differs same = differs (x, y) cc
other_shape_from_pair (x ∷ xs) (y ∷ ys) (suc k) within differs same = other_shape_from_pair xs ys k (omega arith) differs cc

-- what `all` answers over the pairs
pub same_shape_from_all : (xs ys : List Change) (r : Bool) → length xs ≡ length ys
    → MatchBool r (AllWithin IsAlike (zip xs ys) 0 (length (zip xs ys)))
    ((k : ℕ) × (k < length (zip xs ys)) × HoldsAt Differs (zip xs ys) k) → IsTrue r ↔ (map removed_position xs ≡ map removed_position ys)
same_shape_from_all xs ys true long alike = (λ _. same_shape_from_pairs xs ys long alike, λ _. refl)
same_shape_from_all xs ys false long found =
    (λ h. absurd (false≢true h), λ same. absurd (other_shape_from_pair xs ys found.0 found.1 found.2 same))

-- lists of one length stay so
length-changed : (xs ys : List Area) (c d : Change) → NamesRemoval xs c → NamesRemoval ys d → removed_position c ≡ removed_position d
    → length xs ≡ length ys → length (changed xs c) ≡ length (changed ys d)
length-changed xs ys (Push a) (Push b) _ _ alike long = grind (arith, common_steps)
length-changed xs ys (Push a) (Pop addr slot) _ _ alike long = absurd cc
length-changed xs ys (Pop addr slot) (Push b) _ _ alike long = absurd cc
length-changed xs ys (Pop a i) (Pop b j) found found' alike long =
    let shorter = length-remove xs i (IsLastEntry-from xs a i found).within in
    let shorter' = length-remove ys j (IsLastEntry-from ys b j found').within in
    rw (found, found') (omega arith)

pub length-registrations_after : (xs ys : List Area) (cs ds : List Change) → NamesRemovals xs cs → NamesRemovals ys ds
    → map removed_position cs ≡ map removed_position ds → length xs ≡ length ys
    → length (registrations_after xs cs) ≡ length (registrations_after ys ds)
length-registrations_after xs ys [] [] _ _ same long = long
length-registrations_after xs ys [] (d ∷ ds) _ _ same long = absurd cc
length-registrations_after xs ys (c ∷ cs) [] _ _ same long = absurd cc
length-registrations_after xs ys (c ∷ cs) (d ∷ ds) names names' same long =
    length-registrations_after (changed xs c) (changed ys d) cs ds names.1 names'.1 (cc)
    (length-changed xs ys c d names.0 names'.0 (cc) long)
