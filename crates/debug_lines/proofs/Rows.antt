-- One more line of those that are told, one after another.
use Rattle.std.proofs.Common.{◌≡◌, ◌∙◌, ℕ, suc, ◌+◌, ◌-◌, ◌<◌, ◌≤◌, List, [], ◌∷◌, ◌++◌, drop, length, get_or, Option, Some, None, refl}
use Rattle.std.proofs.Common.{sym, ap, append_assoc, append-nil, arith}
use Rattle.std.specs.Prelude.{slice_get}
use Rattle.std.specs.List.{enumerate_from, flat_map, range_with_len}
use Rattle.std.specs.Option.{option_map_or}
use Rattle.std.proofs.lemmas.List.{drop_more}
use Rattle.std.proofs.lemmas.Option.{get_or_from_slice_get, slice_get-get_or, slice_get_within}

-- what is told of one, and then of those behind it
pub one-more : {X : Type 0} (f : X → List ℕ) (x : X) (xs ys : List X) (before after whole : List ℕ) → ys ≡ x ∷ xs
    → after ≡ before ++ f x → before ++ flat_map f ys ≡ whole → after ++ flat_map f xs ≡ whole
one-more f x xs ys before after whole cut written so_far =
    ap (λ bs. bs ++ flat_map f xs) written ∙ append_assoc before (f x) (flat_map f xs) ∙ ap (λ zs. before ++ flat_map f zs) (sym cut)
    ∙ so_far

-- where none is left, all is told
pub none-left : {X : Type 0} (f : X → List ℕ) (ys : List X) (before whole : List ℕ) → ys ≡ [] → before ++ flat_map f ys ≡ whole
    → before ≡ whole
none-left f ys before whole none so_far = sym (ap (λ zs. before ++ flat_map f zs) none ∙ append-nil before) ∙ so_far

pub range-more : (k n : ℕ) → k < n → range_with_len k (n - k) ≡ k ∷ range_with_len (k + 1) (n - (k + 1))
range-more k n below = let left : n - k ≡ suc (n - (k + 1)) = omega (arith, below) in rw left refl

pub range-none : (k n : ℕ) → n ≤ k → range_with_len k (n - k) ≡ []
range-none k n past = let left : n - k ≡ 0 = omega (arith, past) in rw left refl

pub found-drop : {X : Type 0} (xs : List X) (k : ℕ) (x : X) → slice_get xs k ≡ Some x → drop k xs ≡ x ∷ drop (k + 1) xs
found-drop xs k x found =
    drop_more xs k x (slice_get_within xs k x found) ∙ ap (λ y. y ∷ drop (k + 1) xs) (get_or_from_slice_get xs k x x found)

is_there : {X : Type 0} (xs : List X) (k : ℕ) → k < length xs → slice_get xs k ≡ None → ⊥
is_there [] k below none = absurd (omega (arith, below))
is_there (x ∷ xs) k below none = let there : None ≡ Some (get_or (x ∷ xs) k x) = sym none ∙ slice_get-get_or (x ∷ xs) k x below in cc

-- one more of those that have numbers
pub item-more : {X : Type 0} (line : ℕ × X → List ℕ) (xs : List X) (k : ℕ) (before after whole : List ℕ) → k < length xs
    → after ≡ before ++ option_map_or (λ x. line (k, x)) (slice_get xs k) []
    → before ++ flat_map line (enumerate_from k (drop k xs)) ≡ whole
    → after ++ flat_map line (enumerate_from (k + 1) (drop (k + 1) xs)) ≡ whole
item-more {X} line xs k before after whole below written so_far = by (slice_get xs k) refl where
  by : (o : Option X) → slice_get xs k ≡ o → after ++ flat_map line (enumerate_from (k + 1) (drop (k + 1) xs)) ≡ whole
  by None is = absurd (is_there xs k below is)
  by (Some x) is =
      one-more line (k, x) (enumerate_from (k + 1) (drop (k + 1) xs)) (enumerate_from k (drop k xs)) before after whole
      (ap (enumerate_from k) (found-drop xs k x is)) (written ∙ ap (λ o. before ++ option_map_or (λ y. line (k, y)) o []) is) so_far
