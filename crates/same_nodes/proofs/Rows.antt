-- Rows of nodes that look alike.
use Rattle.std.proofs.Common.{◌≡◌, ℕ, ◌+◌, ◌≤◌, List, [], ◌∷◌, ◌++◌, length, take, Some, ap, subst, ◌∙◌, arith}
use Rattle.std.specs.Prelude.{slice_get}
use Rattle.std.proofs.lemmas.List.{take_all, take_more}
use Rattle.std.proofs.lemmas.List.Elements.{AllZip-push}
use Rattle.std.proofs.lemmas.Option.{get_or_from_slice_get, slice_get_within}
use Rattle.node_core.specs.Node.{PreparedNode}
use Rattle.same_nodes.specs.Same.{LookAlike, RowsLookAlike}

take-next : (xs : List PreparedNode) (k : ℕ) (x : PreparedNode) → slice_get xs k ≡ Some x → take (k + 1) xs ≡ take k xs ++ x ∷ []
take-next xs k x found =
    take_more xs k x (slice_get_within xs k x found) ∙ ap (λ y. take k xs ++ y ∷ []) (get_or_from_slice_get xs k x x found)

-- the nodes at one place more
pub rows-more : (xs ys : List PreparedNode) (k : ℕ) (x y : PreparedNode) → slice_get xs k ≡ Some x → slice_get ys k ≡ Some y
    → LookAlike x.node y.node → RowsLookAlike (take k xs) (take k ys) → RowsLookAlike (take (k + 1) xs) (take (k + 1) ys)
rows-more xs ys k x y in_xs in_ys alike rows =
    rw (take-next xs k x in_xs, take-next ys k y in_ys)
    (AllZip-push (λ (a : PreparedNode) (b : PreparedNode). LookAlike a.node b.node) (take k xs) (take k ys) x y rows alike)

-- at all places
pub rows-all : (xs ys : List PreparedNode) (k : ℕ) → length xs ≡ length ys → length xs ≤ k → RowsLookAlike (take k xs) (take k ys)
    → RowsLookAlike xs ys
rows-all xs ys k same all rows =
    subst (λ zs. RowsLookAlike xs zs) (take_all k ys (omega (arith, same, all)))
    (subst (λ zs. RowsLookAlike zs (take k ys)) (take_all k xs all) rows)
