-- The order of points answers `Equal` just where they are the same, so a set of points has what `is_set` says of its keys.
use Rattle.std.proofs.Common.{◌≡◌, ℕ, Bool, true, false, cond, List, [], ◌∷◌, arith, refl, sym, ap, ◌∙◌}
use Rattle.std.specs.Prelude.{◌==◌, ◌&&◌, ◌||◌, not, nat_lt, IsTrue}
use Rattle.std.specs.List.{list_any}
use Rattle.std.specs.Ordering.{is_eq, ordering_then, nat_cmp}
use Rattle.std.specs.declared.cmp.Ordering.{Ordering}
use Rattle.std.specs.declared.cmp.Ordering.TheVariants.{Less}
use Rattle.std.specs.List.Sorted.{IsStrictlySortedBy}
use Rattle.std.proofs.lemmas.Bool.Decides.{nat_tests}
use Rattle.std.specs.BTreeSet.{BTreeSet, contains, UpdatesBy}
use Rattle.bsp_debug.specs.contracts.point.PointOrd.TheImpl.{cmp-value}
use Rattle.bsp_debug.specs.declared.point.Point.{Point}
use Rattle.bsp_debug.specs.declared.point.Point.TheVariants.{Address, Superstep}
use Rattle.bsp_debug.specs.Points.{is_same, is_set, comes_before, AreInOrder, HasAlso, HasNoMore}

abbrev order : Point → Point → Ordering
order = cmp-value.it

is_eq-nat_cmp : (x y : ℕ) → is_eq (nat_cmp x y) ≡ (x == y)
is_eq-nat_cmp x y = grind (arith, nat_tests)

is_eq-pair : (rank rank' addr addr' : ℕ) → is_eq (ordering_then (nat_cmp rank rank') (nat_cmp addr addr'))
    ≡ (rank == rank' && addr == addr')
is_eq-pair rank rank' addr addr' = grind (arith, nat_tests)

is_eq-order : (p q : Point) → is_eq (order p q) ≡ is_same p q
is_eq-order (Address rank addr) (Address rank' addr') = is_eq-pair rank rank' addr addr'
is_eq-order (Address rank addr) (Superstep k) = refl
is_eq-order (Superstep k) (Address rank addr) = refl
is_eq-order (Superstep j) (Superstep k) = is_eq-nat_cmp j k

less-pair : (rank rank' addr addr' : ℕ) → ordering_then (nat_cmp rank rank') (nat_cmp addr addr') ≡ Less
    → IsTrue (nat_lt rank rank' || (rank == rank' && nat_lt addr addr'))
less-pair rank rank' addr addr' less = grind (arith, nat_tests)

less-nat_cmp : (x y : ℕ) → nat_cmp x y ≡ Less → IsTrue (nat_lt x y)
less-nat_cmp x y less = grind (arith, nat_tests)

-- so a point that is less comes before
less-before : (p q : Point) → order p q ≡ Less → IsTrue (comes_before p q)
less-before (Address rank addr) (Address rank' addr') less = less-pair rank rank' addr addr' less
less-before (Address rank addr) (Superstep k) less = refl
less-before (Superstep k) (Address rank addr) less = cc
less-before (Superstep j) (Superstep k) less = less-nat_cmp j k less

pub sorted-order : (points : List Point) → IsStrictlySortedBy order points → AreInOrder points
unfolding IsStrictlySortedBy
sorted-order [] sorted = tt
sorted-order (p ∷ []) sorted = tt
sorted-order (p ∷ q ∷ points) (below, sorted) = (less-before p q below.0, sorted-order (q ∷ points) sorted)

pub is_set-order : (points : List Point) (p : Point) → list_any (λ q. is_eq (order p q)) points ≡ is_set points p
is_set-order [] p = refl
is_set-order (q ∷ points) p = rw (is_eq-order p q, is_set-order points p) refl

if-true : (b other : Bool) → cond b true other ≡ (b || other)
if-true true other = refl
if-true false other = refl

if-false : (b other : Bool) → cond b false other ≡ (not b && other)
if-false true other = refl
if-false false other = refl

module _ (p : Point) (old new : BTreeSet Point) where
  pub HasAlso-insert : UpdatesBy order (order p) old new true → HasAlso p old.keys new.keys
  HasAlso-insert updates q =
      sym (is_set-order new.keys q) ∙ updates.0 q
      ∙ if-true (is_eq (order p q)) (contains order old q)
      ∙ ap (λ b. b || contains order old q) (is_eq-order p q)
      ∙ ap (λ b. is_same p q || b) (is_set-order old.keys q)

  pub HasNoMore-remove : UpdatesBy order (order p) old new false → HasNoMore p old.keys new.keys
  HasNoMore-remove updates q =
      sym (is_set-order new.keys q) ∙ updates.0 q
      ∙ if-false (is_eq (order p q)) (contains order old q)
      ∙ ap (λ b. not b && contains order old q) (is_eq-order p q)
      ∙ ap (λ b. not (is_same p q) && b) (is_set-order old.keys q)
