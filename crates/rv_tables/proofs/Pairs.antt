-- A test of all pairs of a list, and the one element that such a test leaves.
use Rattle.std.proofs.Common.{◌≡◌, zero, suc, Bool, true, ◌&&◌, List, [], ◌∷◌, get_or, sym, ◌∙◌, ap, arith, inl, inr}
use Rattle.std.specs.List.{list_all, AllPairs, Contains}
use Rattle.std.proofs.lemmas.Bool.{and_parts, cases_order}
use Rattle.std.proofs.lemmas.List.{get_or_default}
use Rattle.std.proofs.lemmas.List.Sums.{AllPass-from_list_all}

-- each element passes the test with each later one
abbrev pub all_pairs : {X : Type 0} → (X → X → Bool) → List X → Bool
all_pairs r [] = true
all_pairs r (x ∷ xs) = list_all (r x) xs && all_pairs r xs

AllPairs-from_test : {X : Type 0} (r : X → X → Bool) (xs : List X) → all_pairs r xs ≡ true → AllPairs (λ x y. r x y ≡ true) xs
AllPairs-from_test r [] h i j d before within = absurd (omega arith)
AllPairs-from_test r (x ∷ xs) h i zero d before within = absurd (omega arith)
AllPairs-from_test r (x ∷ xs) h zero (suc j) d before within =
    AllPass-from_list_all (r x) xs (and_parts (list_all (r x) xs) (all_pairs r xs) h).0 j d (omega arith)
AllPairs-from_test r (x ∷ xs) h (suc i) (suc j) d before within =
    AllPairs-from_test r xs (and_parts (list_all (r x) xs) (all_pairs r xs) h).1 i j d (omega arith) (omega arith)

pub AllPairs-from_pass : {X : Type 0} (r : X → X → Bool) (R : X → X → Type 0) (xs : List X) → ((x y : X) → r x y ≡ true → R x y)
    → all_pairs r xs ≡ true → AllPairs R xs
AllPairs-from_pass r R xs means h i j d before within =
    means (get_or xs i d) (get_or xs j d) (AllPairs-from_test r xs h i j d before within)

-- two elements that fail the test, either way, are one
pub same_by_pairs : {X : Type 0} (R : X → X → Type 0) (xs : List X) (x y : X) → AllPairs R xs → Contains xs x → Contains xs y → (R x y → ⊥)
    → (R y x → ⊥) → x ≡ y
same_by_pairs R xs x y pairs (i, i_in, x_at) (j, j_in, y_at) not_xy not_yx =
    let x_at_y : get_or xs i y ≡ x = get_or_default xs i y x i_in ∙ x_at in
    let y_at_x : get_or xs j x ≡ y = get_or_default xs j x y j_in ∙ y_at in
    elim (cases_order i j) [
      | inl e ↦ sym x_at ∙ ap (λ k. get_or xs k x) e ∙ y_at_x
      | inr (inl lt) ↦ let pair = pairs i j x lt j_in in absurd (not_xy (rw (← x_at, ← y_at_x) pair))
      | inr (inr lt) ↦ let pair = pairs j i y lt i_in in absurd (not_yx (rw (← y_at, ← x_at_y) pair))
    ]

infixr 5 ◌⨾◌
-- a pair, written without parentheses
pub ◌⨾◌ : {P Q : Type 0} → P → Q → P × Q
p ⨾ q = (p, q)
