-- Sums over views and lists read by place, as the rule of the claim table reads them.
use Rattle.std.proofs.Common.{◌≡◌, ℕ, zero, suc, ◌+◌, ◌<◌, ◌≤◌, List, [], ◌∷◌, length, set, refl, sym, ap, arith}
use Rattle.std.specs.Prelude.{sum_by}
use Rattle.std.proofs.lemmas.List.Sums.{sum_by-cons}
use mathlib.Core.Option.{some, some-injective, some-ne-none}
use lib.ListN.{get_elem?}

module _ {X : Type 0} where
  -- what stands at a place lies within the list
  pub at-within : (xs : List X) (i : ℕ) (x : X) → get_elem? xs i ≡ some x → i < length xs
  at-within [] i x at = absurd (some-ne-none x (sym at))
  at-within (y ∷ xs) zero x at = omega arith
  at-within (y ∷ xs) (suc i) x at = let rest = at-within xs i x at in omega arith

  -- something stands at each place within
  pub at-there : (xs : List X) (i : ℕ) → i < length xs → (x : X) × (get_elem? xs i ≡ some x)
  at-there [] i within = absurd (omega arith)
  at-there (x ∷ xs) zero within = (x, refl)
  at-there (x ∷ xs) (suc i) within = at-there xs i (omega arith)

  -- one element is set
  pub sum_by-set_at : (count : X → ℕ) (xs : List X) (place : ℕ) (was now : X) → get_elem? xs place ≡ some was
      → sum_by count (set xs place now) + count was ≡ sum_by count xs + count now
  sum_by-set_at count [] place was now at = absurd (some-ne-none was (sym at))
  sum_by-set_at count (head ∷ xs) zero was now at =
      let new = sum_by-cons count now xs in
      let old = sum_by-cons count head xs in
      let same : count head ≡ count was = ap count (some-injective head was at) in
      omega (arith, new, old, same)
  sum_by-set_at count (head ∷ xs) (suc place) was now at =
      let new = sum_by-cons count head (set xs place now) in
      let old = sum_by-cons count head xs in
      let rest = sum_by-set_at count xs place was now at in
      omega (arith, new, old, rest)

  -- each element adds its part
  pub sum_by-at-le : (f : X → ℕ) (xs : List X) (i : ℕ) (x : X) → get_elem? xs i ≡ some x → f x ≤ sum_by f xs
  sum_by-at-le f [] i x at = absurd (some-ne-none x (sym at))
  sum_by-at-le f (z ∷ xs) zero x at =
      let all = sum_by-cons f z xs in
      let same : f z ≡ f x = ap f (some-injective z x at) in
      omega (arith, all, same)
  sum_by-at-le f (z ∷ xs) (suc i) x at =
      let all = sum_by-cons f z xs in
      let rest = sum_by-at-le f xs i x at in
      omega (arith, all, rest)

  -- where no element adds anything, nothing comes together
  pub sum_by-none : (f : X → ℕ) (xs : List X) → ((i : ℕ) (x : X) → get_elem? xs i ≡ some x → f x ≡ 0) → sum_by f xs ≡ 0
  sum_by-none f [] none = refl
  sum_by-none f (x ∷ xs) none =
      let all = sum_by-cons f x xs in
      let here = none 0 x refl in
      let rest = sum_by-none f xs (λ i y at. none (suc i) y at) in
      omega (arith, all, here, rest)
