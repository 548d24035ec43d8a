-- Lists of bytes that are written one after another, up to one of them and past it.
use Rattle.std.proofs.Common.{◌≡◌, ℕ, suc, ◌+◌, ◌<◌, ◌≤◌, inl, inr, List, ◌∷◌, ◌++◌}
use Rattle.std.proofs.Common.{length, get_or, take, drop, Option, ◌∙◌, ap, sym, arith, length-append}
use Rattle.std.specs.List.{flat_map}
use Rattle.std.specs.Io.KnownBytes.{Appends}
use Rattle.std.proofs.KnownBytes.{Appends-trans}
use Rattle.std.proofs.Math.Seq.{drop-cons, take-append-add}
use Rattle.std.proofs.lemmas.List.{take-append-drop, take-append-le}
use Rattle.std.proofs.lemmas.Grind.{flat_map-append}
use Rattle.counted_io.specs.Counted.{HasRisen}
use Rattle.counted_io.specs.Transfers.{AppendsPrefix}

-- all that is written: what comes before the i-th, the i-th, and what comes after it
pub flat_map-at : {X A : Type 0} (f : X → List A) (xs : List X) (i : ℕ) (x : X)
    → i < length xs → x ≡ get_or xs i x
    → flat_map f xs ≡ flat_map f (take i xs) ++ (f x ++ flat_map f (drop (suc i) xs))
flat_map-at f xs i x within is =
    ap (flat_map f) (sym (take-append-drop i xs)) ∙ flat_map-append f (take i xs) (drop i xs)
    ∙ ap (λ ys. flat_map f (take i xs) ++ flat_map f ys)
    (drop-cons xs i x within ∙ ap (λ y. y ∷ drop (suc i) xs) (sym is))

-- a prefix of what comes next, after what was written, is a prefix of all
pub AppendsPrefix-behind : (done next rest whole : List ℕ) (start mid end : Option (List ℕ)) → whole ≡ done ++ (next ++ rest)
    → Appends start mid done → AppendsPrefix mid end next → AppendsPrefix start end whole
AppendsPrefix-behind done next rest whole start mid end is before p =
    let few : p.0 < length next = p.1 in
    let shorter : length done + p.0 < length whole =
    rw (is, length-append done (next ++ rest), length-append next rest) (omega arith) in
    let cut : take (length done + p.0) whole ≡ done ++ take p.0 next =
    rw (is, take-append-add done (next ++ rest) p.0)
    (ap (λ ys. done ++ ys) (take-append-le p.0 next rest (omega arith))) in
    (length done + p.0, shorter, rw cut (Appends-trans start mid end done (take p.0 next) before p.2))

-- a prefix of the i-th, after all before it, is a prefix of all
pub AppendsPrefix-at : {X : Type 0} (f : X → List ℕ) (xs : List X) (i : ℕ) (x : X)
    (start mid end : Option (List ℕ)) → i < length xs → x ≡ get_or xs i x
    → Appends start mid (flat_map f (take i xs)) → AppendsPrefix mid end (f x) → AppendsPrefix start end (flat_map f xs)
AppendsPrefix-at f xs i x start mid end within is before p =
    AppendsPrefix-behind (flat_map f (take i xs)) (f x) (flat_map f (drop (suc i) xs)) (flat_map f xs) start mid end
    (flat_map-at f xs i x within is) before p

-- a count that has risen, above one that is no greater
pub HasRisen-above : (a b c : ℕ) → a ≤ b → HasRisen b c → HasRisen a c
HasRisen-above a b c before (inl rose) = inl (omega arith)
HasRisen-above a b c before (inr full) = inr full
