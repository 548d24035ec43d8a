-- One node of a row steps.
use Rattle.std.proofs.Common.{◌≡◌, ◌≢◌, ℕ, zero, suc, false, List, [], ◌∷◌, map, All, Option, Some, None, option_map, refl, sym, ap, ◌∙◌}
use Rattle.std.specs.Prelude.{slice_get, slice_set}
use Rattle.std.specs.List.{AllZip}
use Rattle.std.specs.Option.{option_map_or}
use Rattle.std.proofs.lemmas.List.Elements.{All-cons, All-head, All-tail}
use Rattle.node_core.specs.Node.{NodeState, local_step}
use Rattle.node_core.proofs.Steps.{local_step-stopped}
use Rattle.machine_core.specs.Events.{runs, stepped}

pub stepped-suc : (input : List ℕ) (rank : ℕ) (n : NodeState) (rest : List NodeState)
    → stepped input (suc rank) (n ∷ rest) ≡ n ∷ stepped input rank rest
stepped-suc input rank n rest = at (slice_get rest rank)
  where
    at : (o : Option NodeState)
        → option_map_or (λ x. slice_set (n ∷ rest) (suc rank) (local_step input x)) o (n ∷ rest)
        ≡ n ∷ option_map_or (λ x. slice_set rest rank (local_step input x)) o rest
    at None = refl
    at (Some x) = refl

-- a node that does not run stays, and so does the row where there is no such rank
pub stepped-disabled : (input : List ℕ) (rank : ℕ) (nodes : List NodeState) → option_map_or runs (slice_get nodes rank) false ≡ false
    → stepped input rank nodes ≡ nodes
stepped-disabled input rank [] stopped = refl
stepped-disabled input zero (n ∷ rest) stopped = ap (λ (x : NodeState). x ∷ rest) (local_step-stopped input n stopped)
stepped-disabled input (suc rank) (n ∷ rest) stopped =
    stepped-suc input rank n rest ∙ ap (λ (xs : List NodeState). n ∷ xs) (stepped-disabled input rank rest stopped)

pub stepped-comm : (input : List ℕ) (r s : ℕ) (nodes : List NodeState) → r ≢ s
    → stepped input s (stepped input r nodes) ≡ stepped input r (stepped input s nodes)
stepped-comm input r s [] other = refl
stepped-comm input zero zero (n ∷ rest) other = absurd (other refl)
stepped-comm input zero (suc s) (n ∷ rest) other =
    stepped-suc input s (local_step input n) rest ∙ ap (λ (xs : List NodeState). stepped input zero xs) (sym (stepped-suc input s n rest))
stepped-comm input (suc r) zero (n ∷ rest) other =
    ap (λ (xs : List NodeState). stepped input zero xs) (stepped-suc input r n rest) ∙ sym (stepped-suc input r (local_step input n) rest)
stepped-comm input (suc r) (suc s) (n ∷ rest) other =
    ap (λ (xs : List NodeState). stepped input (suc s) xs) (stepped-suc input r n rest)
    ∙ stepped-suc input s n (stepped input r rest)
    ∙ ap (λ (xs : List NodeState). n ∷ xs) (stepped-comm input r s rest (λ same. other (ap (λ k. suc k) same)))
    ∙ sym (stepped-suc input r n (stepped input s rest))
    ∙ ap (λ (xs : List NodeState). stepped input (suc r) xs) (sym (stepped-suc input s n rest))

-- the node of the rank makes a step, and the others stay
pub slice_get-stepped : (input : List ℕ) (rank : ℕ) (nodes : List NodeState)
    → slice_get (stepped input rank nodes) rank ≡ option_map (local_step input) (slice_get nodes rank)
slice_get-stepped input rank [] = refl
slice_get-stepped input zero (n ∷ rest) = refl
slice_get-stepped input (suc rank) (n ∷ rest) =
    ap (λ (xs : List NodeState). slice_get xs (suc rank)) (stepped-suc input rank n rest) ∙ slice_get-stepped input rank rest

pub slice_get-stepped_other : (input : List ℕ) (rank other : ℕ) (nodes : List NodeState) → other ≢ rank
    → slice_get (stepped input other nodes) rank ≡ slice_get nodes rank
slice_get-stepped_other input rank other [] differs = refl
slice_get-stepped_other input zero zero (n ∷ rest) differs = absurd (differs refl)
slice_get-stepped_other input (suc rank) zero (n ∷ rest) differs = refl
slice_get-stepped_other input zero (suc other) (n ∷ rest) differs =
    ap (λ (xs : List NodeState). slice_get xs zero) (stepped-suc input other n rest)
slice_get-stepped_other input (suc rank) (suc other) (n ∷ rest) differs =
    ap (λ (xs : List NodeState). slice_get xs (suc rank)) (stepped-suc input other n rest)
    ∙ slice_get-stepped_other input rank other rest (λ same. differs (ap (λ k. suc k) same))

-- what a step keeps of a node, a step in the row keeps of all
module _ (input : List ℕ) where
  pub map-stepped : {Y : Type 0} (f : NodeState → Y) (P : NodeState → Type 0) → ((n : NodeState) → P n → f (local_step input n) ≡ f n)
      → (rank : ℕ) (nodes : List NodeState) → All P nodes → map f (stepped input rank nodes) ≡ map f nodes
  map-stepped f P same rank [] all = refl
  map-stepped f P same zero (n ∷ rest) all = ap (λ y. y ∷ map f rest) (same n (All-head P n rest all))
  map-stepped f P same (suc rank) (n ∷ rest) all =
      ap (λ (xs : List NodeState). map f xs) (stepped-suc input rank n rest)
      ∙ ap (λ ys. f n ∷ ys) (map-stepped f P same rank rest (All-tail P n rest all))

  pub All-stepped : (P : NodeState → Type 0) → ((n : NodeState) → P n → P (local_step input n)) → (rank : ℕ) (nodes : List NodeState)
      → All P nodes → All P (stepped input rank nodes)
  All-stepped P keeps rank [] all = all
  All-stepped P keeps zero (n ∷ rest) all = All-cons P (local_step input n) rest (keeps n (All-head P n rest all)) (All-tail P n rest all)
  All-stepped P keeps (suc rank) (n ∷ rest) all =
      rw (stepped-suc input rank n rest)
      (All-cons P n (stepped input rank rest) (All-head P n rest all) (All-stepped P keeps rank rest (All-tail P n rest all)))

  pub AllZip-stepped : {Y : Type 0} (R : NodeState → Y → Type 0) → ((n : NodeState) (y : Y) → R n y → R (local_step input n) y)
      → (rank : ℕ) (nodes : List NodeState) (ys : List Y) → AllZip R nodes ys → AllZip R (stepped input rank nodes) ys
  AllZip-stepped R keeps rank [] ys all = all
  AllZip-stepped R keeps rank (n ∷ rest) [] all = absurd all
  AllZip-stepped R keeps zero (n ∷ rest) (y ∷ ys) all = (keeps n y all.0, all.1)
  AllZip-stepped R keeps (suc rank) (n ∷ rest) (y ∷ ys) all =
      rw (stepped-suc input rank n rest) (all.0, AllZip-stepped R keeps rank rest ys all.1)
