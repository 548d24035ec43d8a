-- The cost of supersteps (w + g h + l for each: the cost model of BSPlib, Hill and others 1998), in two versions of the ledger. In the
-- first h counts also what a rank moves to itself, which h leaves out in the second (own rules).
use Rattle.std.specs.Prelude.{◌≡◌, ℕ, ◌+◌, ◌*◌, ◌^◌, ◌<◌, ◌≤◌, Bool, if◌then◌else◌, List, ◌++◌, All, codes, sum_by}
use Rattle.std.specs.Fmt.{decimal}
use Rattle.std.specs.List.{flat_map, enumerate_from}
use Rattle.std.specs.List.Sorted.{IsPermutation}
use Rattle.cost_ledger.specs.declared.CostRow.{CostRow}
use Rattle.cost_ledger.specs.declared.LedgerText.{LedgerText}
use Rattle.cost_ledger.specs.declared.LedgerText.TheVariants.{V1, V2}

-- own bounds, which keep every total exact in 128 bits
pub record IsBounded (row : CostRow) : Type 0 where
  pub work : row.w ≤ 2 ^ 40
  pub relation : row.h < 2 ^ 48
  pub whole_relation : row.h_all < 2 ^ 48
  pub messages : row.messages < 2 ^ 48

-- the h that a version counts
abbrev pub h_in : LedgerText → CostRow → ℕ
h_in V1 row = row.h_all
h_in V2 row = row.h

-- the cost of one superstep in a version, at g a byte and l a superstep
abbrev pub cost_of : LedgerText → ℕ → ℕ → CostRow → ℕ
cost_of version g l row = row.w + g * h_in version row + l

-- the cost of all of them, whether an exchange was made or not
abbrev pub total_in : LedgerText → ℕ → ℕ → List CostRow → ℕ
total_in version g l rows = sum_by (cost_of version g l) rows

-- rows in another order have the same total
abbrev pub TotalIgnoresOrder : Type 0
TotalIgnoresOrder =
    (version : LedgerText) (g l : ℕ) (xs ys : List CostRow) → IsPermutation xs ys → total_in version g l ys ≡ total_in version g l xs

-- no h is more than that of the first version
abbrev pub AreAtMostV1 : List CostRow → Type 0
AreAtMostV1 rows = All (λ row. row.h ≤ row.h_all) rows

-- where none is, no total is
abbrev pub TotalIsAtMostV1 : Type 0
TotalIsAtMostV1 = (g l : ℕ) (rows : List CostRow) → AreAtMostV1 rows → total_in V2 g l rows ≤ total_in V1 g l rows

-- the rows of a ledger, and whether room is made for one more
pub record PreparedRows : Type 0 where
  pub rows : List CostRow
  pub ready : Bool

-- whether an exchange was made, in texts for users (own text)
abbrev pub ending_text : CostRow → List ℕ
ending_text row = if row.turned then codes "turned" else codes "last"

-- what a superstep cost, in texts for users (own texts): the first version has its own h and says nothing of messages
abbrev pub row_text : LedgerText → CostRow → List ℕ
row_text V1 row = codes "w " ++ decimal row.w ++ codes " h " ++ decimal row.h_all ++ codes " " ++ ending_text row
row_text V2 row =
    codes "w " ++ decimal row.w ++ codes " h " ++ decimal row.h ++ codes " m " ++ decimal row.messages ++ codes " " ++ ending_text row

-- the line of a superstep, by its number
abbrev pub superstep_line : LedgerText → ℕ × CostRow → List ℕ
superstep_line version at = codes "superstep " ++ decimal at.0 ++ codes ": " ++ row_text version at.1 ++ codes "\n"

-- those of the supersteps, numbered from 0
abbrev pub superstep_lines : LedgerText → List CostRow → List ℕ
superstep_lines version rows = flat_map (superstep_line version) (enumerate_from 0 rows)

-- the line of what all of them cost
abbrev pub total_line : LedgerText → ℕ → ℕ → List CostRow → List ℕ
total_line version g l rows = codes "total " ++ decimal (total_in version g l rows) ++ codes "\n"

-- the lines that tell of costs
abbrev pub cost_lines : LedgerText → ℕ → ℕ → List CostRow → List ℕ
cost_lines version g l rows = superstep_lines version rows ++ total_line version g l rows
