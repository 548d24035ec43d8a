-- Tables of compressed instructions as the listings write them (RISC-V Unprivileged ISA 20191213, section 16.8 "RVC Instruction Set
-- Listings"): a row fixes some bits of a halfword, of which some codes are another row's, reserved, or hints.
use Rattle.std.specs.Prelude.{◌≡◌, ℕ, ◌==◌, Bool, not, ◌&&◌, List, [], ◌∷◌, find, Option, Contains, IsTrue}
use Rattle.std.specs.List.{list_all}
use Rattle.std.specs.Option.{option_map}
use Rattle.rv_tables.specs.Fields.{bits}
use Rattle.rv_tables.specs.Halfwords.{quadrant, funct3, Span, Part, immediate, is_filled}

-- bits of a halfword that have a value
pub record Fixed : Type 0 where
  pub span : Span
  pub value : ℕ

infix 75 ◌is◌
abbrev pub ◌is◌ : Span → ℕ → Fixed
span is value = record { span = span; value = value }

-- the test whether a halfword has all these bits
abbrev pub has : ℕ → List Fixed → Bool
has h code = list_all (λ f. bits h f.span.high f.span.low == f.value) code

-- the test whether a halfword has none of these codes
abbrev pub has_none : ℕ → List (List Fixed) → Bool
has_none h codes = list_all (λ code. not (has h code)) codes

pub record CompressedRow (I : Type 0) : Type 0 where
  pub quadrant : ℕ
  pub funct3 : ℕ
  -- the further fixed bits
  pub fixed : List Fixed
  -- of these codes, another row
  pub others : List (List Fixed)
  -- of these, none
  pub reserved : List (List Fixed)
  -- of these, the row, but as a hint
  pub hints : List (List Fixed)
  pub layout : List Part
  -- the instruction of a halfword, and of the immediate in it
  pub expand : ℕ → ℕ → I

-- a row without codes that are another row's, reserved, or hints
abbrev pub c_row : {I : Type 0} → (quadrant funct3 : ℕ) → List Fixed → List Part → (ℕ → ℕ → I) → CompressedRow I
c_row quadrant funct3 fixed layout expand =
    record { quadrant = quadrant; funct3 = funct3; fixed = fixed; others = []; reserved = []; hints = []; layout = layout; expand = expand }

infixl 20 ◌leaves◌
abbrev pub ◌leaves◌ : {I : Type 0} → CompressedRow I → List Fixed → CompressedRow I
r leaves code = record r { others = code ∷ r.others }

infixl 20 ◌reserves◌
abbrev pub ◌reserves◌ : {I : Type 0} → CompressedRow I → List Fixed → CompressedRow I
r reserves code = record r { reserved = code ∷ r.reserved }

infixl 20 ◌hints_at◌
abbrev pub ◌hints_at◌ : {I : Type 0} → CompressedRow I → List Fixed → CompressedRow I
r hints_at code = record r { hints = code ∷ r.hints }

-- the test whether a halfword has the fixed bits of a row, and is of no other by that
abbrev pub is_of : {I : Type 0} → ℕ → CompressedRow I → Bool
is_of h r = (quadrant h == r.quadrant) && (funct3 h == r.funct3) && has h r.fixed && has_none h r.others

-- no halfword is of both rows
abbrev pub AreDisjoint : {I J : Type 0} → CompressedRow I → CompressedRow J → Type 0
AreDisjoint r s = (h : ℕ) → IsTrue (is_of h r) → IsTrue (is_of h s) → ⊥

-- the test whether a halfword meets a row: it is of it, and not reserved
abbrev pub meets : {I : Type 0} → ℕ → CompressedRow I → Bool
meets h r = is_of h r && has_none h r.reserved

-- a row's instruction of a halfword
abbrev pub expanded : {I : Type 0} → ℕ → CompressedRow I → I
expanded h r = r.expand h (immediate h r.layout)

-- a halfword expands to an instruction of a table: it meets a row, and the instruction is the row's
pub record ExpandsBy {I : Type 0} (table : List (CompressedRow I)) (h : ℕ) (i : I) : Type 0 where
  pub row : CompressedRow I
  pub listed : Contains table row
  pub met : IsTrue (meets h row)
  pub instruction : expanded h row ≡ i

-- the instruction of the row that a halfword meets, or none
abbrev pub expansion_by : {I : Type 0} → List (CompressedRow I) → ℕ → Option I
expansion_by table h = option_map (expanded h) (find (meets h) table)

-- the test whether the layouts of a table have as many bits of an immediate as the halfword's that hold them
abbrev pub are_filled : {I : Type 0} → List (CompressedRow I) → Bool
are_filled table = list_all (λ r. list_all is_filled r.layout) table
