-- A table whose cells are emptied, and one that has more of them.
use Rattle.std.proofs.Common.{◌≡◌, ℕ, ◌+◌, ◌-◌, ◌<◌, ◌≤◌, ◌^◌, ◌++◌, Bool, true, false, List, length, take, replicate, get_or, Option, None}
use Rattle.std.proofs.Common.{inl, inr, sym, ap, ◌∙◌, arith, get_or-set_other, get_or-set_same}
use Rattle.std.specs.Prelude.{slice_index, slice_set, if◌then◌else◌}
use Rattle.std.proofs.lemmas.Bool.{cases_eq, cases_lt, lt-ltb, le-ltb}
use Rattle.std.proofs.lemmas.List.{get_or_append_left, get_or-append-add, get_or_past, get_or-replicate}
use Rattle.std.proofs.lemmas.List.{length-append, length-replicate, take_all}
use Rattle.step_counts.specs.Table.{TableState, told_outside, IsEmpty, IsTable}

-- cells behind the last one are as those that are not there
zeros-there : (n k : ℕ) → slice_index (replicate n 0) k ≡ 0
zeros-there n k = elim (cases_lt k n) [
  | inl within ↦ get_or-replicate n k 0 0 within
  | inr past ↦ get_or_past (replicate n 0) k 0 (let long = length-replicate {A = ℕ} n 0 in omega (arith, long, past))
]

pub more_cells : (cells : List ℕ) (n k : ℕ) → slice_index (cells ++ replicate n 0) k ≡ slice_index cells k
more_cells cells n k = elim (cases_lt k (length cells)) [
  | inl within ↦ get_or_append_left cells (replicate n 0) 0 k within
  | inr past ↦
      let at : k ≡ length cells + (k - length cells) = omega (arith, past) in
      ap (λ i. get_or (cells ++ replicate n 0) i 0) at ∙ get_or-append-add cells (replicate n 0) (k - length cells) 0
      ∙ zeros-there n (k - length cells) ∙ sym (get_or_past cells k 0 past)
]

module _ (t : TableState) (table : IsTable t) (size more : ℕ) (within : length t.cells ≤ size) where
  -- cells that were asked for, whether they were refused or not
  pub still-told : (ok : Bool) (new : List ℕ) → new ≡ (if ok then take size t.cells ++ replicate more 0 else t.cells) → (k : ℕ)
      → slice_index new k ≡ slice_index t.cells k
  still-told true new is k =
      ap (λ (cs : List ℕ). slice_index cs k) is
      ∙ ap (λ (cs : List ℕ). slice_index (cs ++ replicate more 0) k) (take_all size t.cells within) ∙ more_cells t.cells more k
  still-told false new is k = ap (λ (cs : List ℕ). slice_index cs k) is

  still-few : (ok : Bool) (new : List ℕ) → new ≡ (if ok then take size t.cells ++ replicate more 0 else t.cells)
      → (length t.cells ≤ length new) × (length new ≤ length t.cells + more)
  still-few true new is =
      let long : length new ≡ length t.cells + more =
      ap length is ∙ ap (λ (cs : List ℕ). length (cs ++ replicate more 0)) (take_all size t.cells within)
      ∙ length-append t.cells (replicate more 0) ∙ ap (λ n. length t.cells + n) (length-replicate {A = ℕ} more 0) in
      (omega (arith, long), omega (arith, long))
  still-few false new is = let same = ap length is in (omega (arith, same), omega (arith, same))

  pub still-table : (ok : Bool) (new : List ℕ) → length t.cells + more ≤ t.memory
      → new ≡ (if ok then take size t.cells ++ replicate more 0 else t.cells) → IsTable (record t { cells = new })
  still-table ok new inside is =
      let few = still-few ok new is in
      record {
        few = table.few;
        within = omega (arith, few.1, inside);
        low = table.low;
        high = omega (arith, few.0, table.high);
        below = λ k less. still-told ok new is k ∙ table.below k less;
        above = λ k above. still-told ok new is k ∙ table.above k above;
        outside = table.outside;
      }

-- one cell less
pub below_next : (cells : List ℕ) (address : ℕ) → address < length cells → ((k : ℕ) → k < address → slice_index cells k ≡ 0) → (k : ℕ)
    → k < address + 1 → slice_index (slice_set cells address 0) k ≡ 0
below_next cells address within before k below = elim (cases_eq k address) [
  | inl same ↦ ap (λ (i : ℕ). get_or (slice_set cells address 0) i 0) same ∙ get_or-set_same cells address 0 0 within
  | inr other ↦
      get_or-set_other cells address k 0 0 other
      ∙ before k
      (let less : k < address = elim (cases_lt k address) [ inl less ↦ less | inr more ↦ absurd (other (omega (arith, below, more))) ] in
      less)
]

pub above_next : (cells : List ℕ) (address high : ℕ) → address < high → ((k : ℕ) → high ≤ k → slice_index cells k ≡ 0) → (k : ℕ) → high ≤ k
    → slice_index (slice_set cells address 0) k ≡ 0
above_next cells address high within after k above =
    get_or-set_other cells address k 0 0 (λ same. omega (arith, within, above, same)) ∙ after k above

-- all cells
module _ (cells : List ℕ) (address high memory : ℕ) (before : (k : ℕ) → k < address → slice_index cells k ≡ 0)
    (after : (k : ℕ) → high ≤ k → slice_index cells k ≡ 0) (past : high ≤ address) where
  zeros : (k : ℕ) → slice_index cells k ≡ 0
  zeros k = elim (cases_lt k address) [ inl less ↦ before k less | inr more ↦ after k (omega (arith, past, more)) ]

  pub cleared : length cells ≤ memory → memory ≤ 2 ^ 32
      → IsTable (record { memory = memory; cells = cells; low = memory; high = 0; outside = None })
  cleared within few = record {
    few = few;
    within = within;
    low = omega arith;
    high = omega arith;
    below = λ k less. zeros k;
    above = λ k more. zeros k;
    outside = λ there is. absurd (let never : ⊥ = cc in never);
  }

  pub emptied : (t : TableState) → t.cells ≡ cells → t.outside ≡ None → IsEmpty t
  emptied t same none = record {
    none = λ there. elim (cases_lt there t.memory) [
      | inl within ↦
          ap (λ b. if b then slice_index t.cells there else told_outside t.outside there) (lt-ltb there t.memory within)
          ∙ ap (λ (cs : List ℕ). slice_index cs there) same ∙ zeros there
      | inr past ↦
          ap (λ b. if b then slice_index t.cells there else told_outside t.outside there) (le-ltb there t.memory past)
          ∙ ap (λ (o : Option ℕ). told_outside o there) none
    ];
    outside = none;
  }
