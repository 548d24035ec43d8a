-- Totals fit 128 bits, grow by the cost of each row, and are at most those of the first version.
use Rattle.std.proofs.Common.{◌≡◌, ℕ, ◌+◌, ◌*◌, ◌^◌, ◌<◌, ◌≤◌, List, [], ◌∷◌, ◌++◌, length, ap, ◌∙◌, add-zero, arith}
use Rattle.std.specs.Prelude.{All}
use Rattle.std.proofs.Math.Nat.{mul-le-mul}
use Rattle.std.proofs.lemmas.List.{length_push}
use Rattle.std.proofs.lemmas.List.Elements.{All-nil, All-cons, All-head, All-tail, All-append}
use Rattle.std.proofs.lemmas.List.Sums.{sum_by-append, sum_by-cons, sum_by-le}
use Rattle.cost_ledger.specs.declared.CostRow.{CostRow}
use Rattle.cost_ledger.specs.declared.LedgerText.{LedgerText}
use Rattle.cost_ledger.specs.declared.LedgerText.TheVariants.{V1, V2}
use Rattle.cost_ledger.specs.CostRow.{IsBounded, h_in, cost_of, total_in, TotalIsAtMostV1}

h_bound : (version : LedgerText) (row : CostRow) → IsBounded row → h_in version row < 2 ^ 48
h_bound V1 row bounded = bounded.whole_relation
h_bound V2 row bounded = bounded.relation

-- the greatest cost of one row
cost_bound : (version : LedgerText) (g l : ℕ) (row : CostRow) → g < 2 ^ 32 → l < 2 ^ 32 → IsBounded row → cost_of version g l row ≤ 2 ^ 81
cost_bound version g l row g_fits l_fits bounded =
    let fits = h_bound version row bounded in
    let most : g * h_in version row ≤ 2 ^ 32 * 2 ^ 48 = mul-le-mul {n₂ = 2 ^ 32} {m₂ = 2 ^ 48} (omega arith) (omega arith) in
    omega arith

-- the total of as many rows as a ledger holds is below 2^128
pub total_fits : (version : LedgerText) (g l : ℕ) (rows : List CostRow) → g < 2 ^ 32 → l < 2 ^ 32 → length rows ≤ 2 ^ 41
    → All IsBounded rows → total_in version g l rows < 2 ^ 128
total_fits version g l rows g_fits l_fits few bounded =
    let each : All (λ row. cost_of version g l row ≤ 2 ^ 81) rows =
    λ k d within. cost_bound version g l _ g_fits l_fits (bounded k d within) in
    let bound : total_in version g l rows ≤ length rows * 2 ^ 81 = sum_by-le (cost_of version g l) (2 ^ 81) rows each in
    omega arith

-- the total of one row more
pub total_more : (version : LedgerText) (g l : ℕ) (rows : List CostRow) (row : CostRow)
    → total_in version g l (rows ++ row ∷ []) ≡ total_in version g l rows + cost_of version g l row
total_more version g l rows row =
    sum_by-append (cost_of version g l) rows (row ∷ [])
    ∙ ap (λ k. total_in version g l rows + k) (sum_by-cons (cost_of version g l) row [] ∙ add-zero (cost_of version g l row))

pub total_with_fits : (version : LedgerText) (g l : ℕ) (rows : List CostRow) (row : CostRow) → g < 2 ^ 32 → l < 2 ^ 32
    → length rows < 2 ^ 41 → All IsBounded rows → IsBounded row → total_in version g l rows + cost_of version g l row < 2 ^ 128
total_with_fits version g l rows row g_fits l_fits few bounded one =
    rw (← total_more version g l rows row)
    (total_fits version g l (rows ++ row ∷ []) g_fits l_fits (omega (arith, length_push rows row))
    (All-append IsBounded rows (row ∷ []) bounded (All-cons IsBounded row [] one (All-nil IsBounded))))

-- a row costs no more than in the first version where its h is no more
cost_at_most : (g l : ℕ) (row : CostRow) → row.h ≤ row.h_all → cost_of V2 g l row ≤ cost_of V1 g l row
cost_at_most g l row least =
    let most : g * row.h ≤ g * row.h_all = mul-le-mul {n₂ = g} {m₂ = row.h_all} (omega arith) least in
    omega (arith, most)

pub total_is_at_most_v1 : TotalIsAtMostV1
total_is_at_most_v1 g l [] least = omega arith
total_is_at_most_v1 g l (row ∷ rows) least =
    let first = cost_at_most g l row (All-head (λ (r : CostRow). r.h ≤ r.h_all) row rows least) in
    let rest = total_is_at_most_v1 g l rows (All-tail (λ (r : CostRow). r.h ≤ r.h_all) row rows least) in
    omega (arith, first, rest, sum_by-cons (cost_of V2 g l) row rows, sum_by-cons (cost_of V1 g l) row rows)
