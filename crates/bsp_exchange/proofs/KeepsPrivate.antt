-- What is private in each node stays so.
use Rattle.std.proofs.Common.{◌≡◌, ℕ, zero, suc, true, List, [], ◌∷◌, set, Some, Ok, Err, OnOk, OnErr}
use Rattle.std.specs.Prelude.{slice_get}
use Rattle.std.specs.declared.result.Result.{Result}
use Rattle.std.proofs.lemmas.Option.{same_Some}
use Rattle.node_memory.specs.Pages.{KeepsPrivate}
use Rattle.node_memory.proofs.Owned.{KeepsPrivate-same, KeepsPrivate-then}
use Rattle.node_core.specs.Node.{PreparedNode}
use Rattle.bsp_exchange.specs.Parts.{EachKeepsPrivate}

pub EachKeepsPrivate-same : (ps : List PreparedNode) → EachKeepsPrivate ps ps
EachKeepsPrivate-same [] = tt
EachKeepsPrivate-same (p ∷ ps) = (KeepsPrivate-same p.private, EachKeepsPrivate-same ps)

pub EachKeepsPrivate-then : (a b c : List PreparedNode) → EachKeepsPrivate a b → EachKeepsPrivate b c → EachKeepsPrivate a c
EachKeepsPrivate-then [] [] c first second = second
EachKeepsPrivate-then [] (q ∷ b) c first second = absurd first
EachKeepsPrivate-then (p ∷ a) [] c first second = absurd first
EachKeepsPrivate-then (p ∷ a) (q ∷ b) [] first second = absurd second
EachKeepsPrivate-then (p ∷ a) (q ∷ b) (r ∷ c) first second =
    (KeepsPrivate-then p.private q.private r.private first.0 second.0, EachKeepsPrivate-then a b c first.1 second.1)

-- one of the nodes is changed, and keeps what is its own
pub EachKeepsPrivate-set : (xs ys : List PreparedNode) (i : ℕ) (p q : PreparedNode) → EachKeepsPrivate xs ys → slice_get ys i ≡ Some p
    → KeepsPrivate p.private q.private → EachKeepsPrivate xs (set ys i q)
EachKeepsPrivate-set [] [] i p q each here keeps = tt
EachKeepsPrivate-set [] (y ∷ ys) i p q each here keeps = absurd each
EachKeepsPrivate-set (x ∷ xs) [] i p q each here keeps = absurd each
EachKeepsPrivate-set (x ∷ xs) (y ∷ ys) zero p q each here keeps =
    let head : y ≡ p = same_Some y p here in
    (KeepsPrivate-then x.private y.private q.private each.0 (rw head keeps), each.1)
EachKeepsPrivate-set (x ∷ xs) (y ∷ ys) (suc i) p q each here keeps = (each.0, EachKeepsPrivate-set xs ys i p q each.1 here keeps)

-- a node for whose turn room is made, or refused
pub KeepsPrivate-readied : {T E : Type 0} (r : Result T E) (old new : PreparedNode) → OnOk r (new ≡ record old { ready = true })
    → OnErr r (new ≡ old) → KeepsPrivate old.private new.private
KeepsPrivate-readied (Ok x) old new ok err = rw ok (KeepsPrivate-same old.private)
KeepsPrivate-readied (Err e) old new ok err = rw err (KeepsPrivate-same old.private)
