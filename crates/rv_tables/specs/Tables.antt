-- Tables of instructions as the listings write them (RISC-V Unprivileged ISA 20191213, chapter 24 "RV32/64G Instruction Set Listings"):
-- a row fixes some bits of a word, and reads the operands in the others.
use Rattle.std.specs.Prelude.{◌≡◌, ℕ, ◌+◌, ◌-◌, ◌*◌, ◌^◌, ◌==◌, Bool, List, map, find, Option, bit_and, Contains}
use Rattle.std.specs.List.{AllPairs}
use Rattle.std.specs.Option.{option_map}
use Rattle.rv_tables.specs.declared.instr.Row.{Row}

-- ones in the bits from `high` down to `low`
abbrev pub ones : (high low : ℕ) → ℕ
ones high low = (2 ^ (high - low + 1) - 1) * 2 ^ low

-- a word meets a row where it has the row's value under the row's mask
abbrev pub MeetsRow : {F : Type 0} → ℕ → Row F → Type 0
MeetsRow w row = bit_and w row.mask ≡ row.value

-- no word meets both rows
abbrev pub IsDisjoint : {F G : Type 0} → Row F → Row G → Type 0
IsDisjoint a b = (w : ℕ) → MeetsRow w a → MeetsRow w b → ⊥

-- a row, and what it reads off a word that meets it
pub record RowEncoding (F R : Type 0) : Type 0 where
  pub row : Row F
  pub read : ℕ → R

-- the test whether a word meets the row of an encoding
abbrev pub meets : {F R : Type 0} → ℕ → RowEncoding F R → Bool
meets w e = bit_and w e.row.mask == e.row.value

-- a table reads this off a word: the word meets a row, which reads it off the word's fields
pub record Reads {F R : Type 0} (table : List (RowEncoding F R)) (w : ℕ) (r : R) : Type 0 where
  pub encoding : RowEncoding F R
  pub listed : Contains table encoding
  pub met : MeetsRow w encoding.row
  pub operands : encoding.read w ≡ r

-- what the row reads that a word meets, or none
abbrev pub read_off : {F R : Type 0} → List (RowEncoding F R) → ℕ → Option R
read_off table w = option_map (λ e. e.read w) (find (meets w) table)

-- rows as a caller sees them: those of a table, in its order, and no word meets two of them
pub record AreRowsOf {F R : Type 0} (table : List (RowEncoding F R)) (rows : List (Row F)) : Type 0 where
  pub order : rows ≡ map (λ e. e.row) table
  pub disjoint : AllPairs IsDisjoint rows
