-- What one more step of a loop over numbers writes.
use Rattle.std.proofs.Common.{◌≡◌, ℕ, ◌+◌, ◌<◌, List, [], ◌∷◌, ◌++◌, length, map, take, get_or, ℤ, pos, append_assoc}
use Rattle.std.specs.List.{flat_map}
use Rattle.std.proofs.lemmas.List.{map_more, take_more, flat_map_more}

pub mapped_more : (f : ℤ → ℕ) (before old new : List ℕ) (xs : List ℤ) (i x : ℕ) → i < length xs → old ≡ before ++ map f (take i xs)
    → new ≡ old ++ x ∷ [] → x ≡ f (get_or xs i (pos 0)) → new ≡ before ++ map f (take (i + 1) xs)
mapped_more f before old new xs i x lt was is is_x =
    rw (is, was, is_x, map_more f xs i (pos 0) lt) (append_assoc before (map f (take i xs)) (f (get_or xs i (pos 0)) ∷ []))

pub flat_mapped_more : (f : ℤ → List ℕ) (before old new private : List ℕ) (xs : List ℤ) (i : ℕ) → i < length xs
    → old ≡ before ++ flat_map f (take i xs) → new ≡ old ++ private → private ≡ f (get_or xs i (pos 0))
    → new ≡ before ++ flat_map f (take (i + 1) xs)
flat_mapped_more f before old new private xs i lt was is is_private =
    rw (is, was, is_private, take_more xs i (pos 0) lt) (flat_map_more f before (take i xs) (get_or xs i (pos 0)))
