-- The lines of counts, by parts of the addresses.
use Rattle.std.proofs.Common.{◌≡◌, ℕ, zero, suc, ◌+◌, ◌-◌, ◌<◌, ◌≤◌, List, [], ◌∷◌, ◌++◌, take, Option, Some, None, codes, inl, inr, sym}
use Rattle.std.proofs.Common.{ap, ap₂, ◌∙◌, refl, arith, append_assoc, append-nil}
use Rattle.std.specs.Prelude.{slice_get, slice_index, flat_map, if◌then◌else◌}
use Rattle.std.specs.List.{range_with_len}
use Rattle.std.proofs.lemmas.Bool.{lt-ltb, le-ltb, eq-eqb, ne_eqb, cases_lt}
use Rattle.std.proofs.lemmas.Grind.{flat_map-append}
use Rattle.std.proofs.lemmas.List.{map-id, take_more}
use Rattle.std.proofs.lemmas.List.FromFn.{map-range_with_len_more}
use Rattle.std.proofs.lemmas.Option.{slice_get_within, get_or_from_slice_get}
use Rattle.step_counts.specs.Counts.{count_text, line_of, lines_below}
use Rattle.step_counts.specs.Table.{TableState, told, told_outside, IsTable}

-- the text of one piece more
flat_map-push : {X : Type 0} (f : X → List ℕ) (xs : List X) (x : X) → flat_map f (xs ++ x ∷ []) ≡ flat_map f xs ++ f x
flat_map-push f xs x = flat_map-append f xs (x ∷ []) ∙ ap (λ ys. flat_map f xs ++ ys) (append-nil (f x))

grown : {X : Type 0} (f : X → List ℕ) (xs : List X) (x : X) (first now new : List ℕ) → now ≡ first ++ flat_map f xs → new ≡ now ++ f x
    → new ≡ first ++ flat_map f (xs ++ x ∷ [])
grown f xs x first now new before more =
    more ∙ ap (λ bs. bs ++ f x) before ∙ append_assoc first (flat_map f xs) (f x) ∙ ap (λ bs. first ++ bs) (sym (flat_map-push f xs x))

-- the next of a list
pub next_piece : {X : Type 0} (f : X → List ℕ) (xs : List X) (i : ℕ) (x : X) (first now new : List ℕ) → slice_get xs i ≡ Some x
    → now ≡ first ++ flat_map f (take i xs) → new ≡ now ++ f x → new ≡ first ++ flat_map f (take (i + 1) xs)
next_piece f xs i x first now new found before more =
    grown f (take i xs) x first now new before more
    ∙ ap (λ ys. first ++ flat_map f ys)
    (ap (λ y. take i xs ++ y ∷ []) (sym (get_or_from_slice_get xs i x x found)) ∙ sym (take_more xs i x (slice_get_within xs i x found)))

pub range-more : (n : ℕ) → range_with_len 0 (n + 1) ≡ range_with_len 0 n ++ n ∷ []
range-more n =
    sym (map-id (range_with_len 0 (n + 1))) ∙ map-range_with_len_more (λ k. k) 0 n n (omega arith)
    ∙ ap (λ ks. ks ++ n ∷ []) (map-id (range_with_len 0 n))

module _ (number rank : ℕ) (count : ℕ → ℕ) where
  -- one address more
  pub below-more : (bound : ℕ)
      → lines_below (bound + 1) number rank count ≡ lines_below bound number rank count ++ line_of number rank bound (count bound)
  unfolding lines_below
  below-more bound =
      ap (flat_map (λ address. line_of number rank address (count address))) (range-more bound)
      ∙ flat_map-push (λ address. line_of number rank address (count address)) (range_with_len 0 bound) bound

  below-zero : lines_below 0 number rank count ≡ []
  unfolding lines_below
  below-zero = refl

  none-there : (address : ℕ) → count address ≡ 0 → line_of number rank address (count address) ≡ []
  none-there address none =
      ap (λ b. if b then count_text number rank address (count address) ++ codes "\n" else [])
      (le-ltb 0 (count address) (omega (arith, none)))

  -- addresses without a count have no lines
  skipped : (more low : ℕ) → ((address : ℕ) → low ≤ address → address < low + more → count address ≡ 0)
      → lines_below (low + more) number rank count ≡ lines_below low number rank count
  skipped zero low none = ap (λ k. lines_below k number rank count) (let same : low + 0 ≡ low = omega arith in same)
  skipped (suc more) low none =
      ap (λ k. lines_below k number rank count) (let last : low + suc more ≡ (low + more) + 1 = omega arith in last)
      ∙ below-more (low + more)
      ∙ ap (λ ls. lines_below (low + more) number rank count ++ ls)
      (none-there (low + more) (none (low + more) (omega arith) (omega arith)))
      ∙ append-nil (lines_below (low + more) number rank count)
      ∙ skipped more low (λ address from below. none address from (omega (arith, below)))

  pub skip : (low high : ℕ) → low ≤ high → ((address : ℕ) → low ≤ address → address < high → count address ≡ 0)
      → lines_below high number rank count ≡ lines_below low number rank count
  skip low high order none =
      let split : high ≡ low + (high - low) = omega (arith, order) in
      ap (λ k. lines_below k number rank count) split
      ∙ skipped (high - low) low (λ address from below. none address from (omega (arith, below, split)))

  pub skip-first : (high : ℕ) → ((address : ℕ) → address < high → count address ≡ 0) → lines_below high number rank count ≡ []
  skip-first high none = skip 0 high (omega arith) (λ address from below. none address below) ∙ below-zero

  -- the next address
  pub next_below : (bound n : ℕ) (first now new : List ℕ) → n ≡ count bound → now ≡ first ++ lines_below bound number rank count
      → new ≡ now ++ line_of number rank bound n → new ≡ first ++ lines_below (bound + 1) number rank count
  next_below bound n first now new is before more =
      more ∙ ap₂ (λ (bs : List ℕ) (k : ℕ). bs ++ line_of number rank bound k) before is
      ∙ append_assoc first (lines_below bound number rank count) (line_of number rank bound (count bound))
      ∙ ap (λ bs. first ++ bs) (sym (below-more bound))

-- the same counts have the same lines
pub below-same : (bound number rank : ℕ) (f g : ℕ → ℕ) → ((address : ℕ) → f address ≡ g address)
    → lines_below bound number rank f ≡ lines_below bound number rank g
below-same zero number rank f g same = below-zero number rank f ∙ sym (below-zero number rank g)
below-same (suc bound) number rank f g same =
    ap (λ k. lines_below k number rank f) (add-one' bound)
    ∙ below-more number rank f bound
    ∙ ap₂ (λ (bs : List ℕ) (k : ℕ). bs ++ line_of number rank bound k) (below-same bound number rank f g same) (same bound)
    ∙ sym (below-more number rank g bound)
    ∙ ap (λ k. lines_below k number rank g) (sym (add-one' bound))
  where
    add-one' : (n : ℕ) → suc n ≡ n + 1
    add-one' n = omega arith

-- what a table tells
module _ (t : TableState) (table : IsTable t) where
  told-cell : (address : ℕ) → address < t.memory → told t address ≡ slice_index t.cells address
  told-cell address within =
      ap (λ b. if b then slice_index t.cells address else told_outside t.outside address) (lt-ltb address t.memory within)

  told-past : (address : ℕ) → t.memory ≤ address → told t address ≡ told_outside t.outside address
  told-past address past =
      ap (λ b. if b then slice_index t.cells address else told_outside t.outside address) (le-ltb address t.memory past)

  pub told-at : (address : ℕ) → address < t.high → slice_index t.cells address ≡ told t address
  told-at address within = sym (told-cell address (omega (arith, within, table.high, table.within)))

  -- before `low`
  pub told-below : (address : ℕ) → address < t.low → told t address ≡ 0
  told-below address before =
      told-cell address (omega (arith, before, table.low)) ∙ table.below address before

  -- from `high` on, where no step was made past the memory
  pub told-above : (none : t.outside ≡ None) (address : ℕ) → t.high ≤ address → told t address ≡ 0
  told-above none address from = elim (cases_lt address t.memory) [
    | inl within ↦ told-cell address within ∙ table.above address from
    | inr past ↦ told-past address past ∙ ap (λ (o : Option ℕ). told_outside o address) none
  ]

  -- and where one was
  module _ (there : ℕ) (is : t.outside ≡ Some there) where
    pub told-there : told t there ≡ 1
    told-there =
        told-past there (table.outside there is).0 ∙ ap (λ (o : Option ℕ). told_outside o there) is
        ∙ ap (λ b. if b then 1 else 0) (eq-eqb there there refl)

    pub told-others : (address : ℕ) → t.high ≤ address → (there ≡ address → ⊥) → told t address ≡ 0
    told-others address from other = elim (cases_lt address t.memory) [
      | inl within ↦ told-cell address within ∙ table.above address from
      | inr past ↦
          told-past address past ∙ ap (λ (o : Option ℕ). told_outside o address) is
          ∙ ap (λ b. if b then 1 else 0) (ne_eqb there address other)
    ]

  -- the lines of all addresses, once those below some address from `high` on are there
  pub all-inside : (number rank from top : ℕ) → t.outside ≡ None → t.high ≤ from → from ≤ top
      → lines_below top number rank (told t) ≡ lines_below from number rank (told t)
  all-inside number rank from top none past within =
      skip number rank (told t) from top within (λ address above below. told-above none address (omega (arith, above, past)))

  pub all-outside : (number rank from top there : ℕ) → t.outside ≡ Some there → t.high ≤ from → from ≤ there → there < top
      → lines_below top number rank (told t) ≡ lines_below from number rank (told t) ++ line_of number rank there 1
  all-outside number rank from top there is past before within =
      skip number rank (told t) (there + 1) top (omega (arith, within))
      (λ address above below. told-others there is address (omega (arith, above, before, past)) (λ same. omega (arith, above, same)))
      ∙ below-more number rank (told t) there
      ∙ ap₂ (λ (bs : List ℕ) (k : ℕ). bs ++ line_of number rank there k)
      (skip number rank (told t) from there before
      (λ address above below. told-others there is address (omega (arith, above, past)) (λ same. omega (arith, below, same))))
      (told-there there is)
