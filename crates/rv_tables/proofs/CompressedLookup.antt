-- The row that a halfword meets, looked up where its quadrant and funct3 are known.
use Rattle.std.proofs.Common.{◌≡◌, ℕ, Bool, ◌&&◌, eqb, Option, refl}
use Rattle.std.specs.List.{find}
use Rattle.std.specs.Option.{option_map}
use Rattle.std.proofs.lemmas.Bool.Decides.{nat_tests}
use Rattle.rv_tables.specs.Compressed.{compressed_rows, expansion_of}
use Rattle.rv_tables.specs.CompressedTables.{CompressedRow, expanded, has, has_none}
use Rattle.rv_tables.specs.Halfwords.{quadrant, funct3}
use Rattle.rv_tables.specs.declared.instr.Instr.{Instr}

abbrev pub meets_at : {I : Type 0} → ℕ → ℕ → ℕ → CompressedRow I → Bool
meets_at h q f3 r =
    (eqb q r.quadrant && eqb f3 r.funct3 && has h r.fixed && has_none h r.others) && has_none h r.reserved

-- the instruction that a halfword expands to, looked up by its quadrant and funct3
unfoldable pub expansion_at : ℕ → ℕ → ℕ → Option Instr
expansion_at h q f3 = option_map (expanded h) (find (meets_at h q f3) compressed_rows)

pub expansion_of-fields : (h : ℕ) → expansion_of h ≡ expansion_at h (quadrant h) (funct3 h)
unfolding expansion_of expansion_at
expansion_of-fields h = refl

pub at_fields : (h q f3 : ℕ) → quadrant h ≡ q → funct3 h ≡ f3 → expansion_of h ≡ expansion_at h q f3
at_fields h q f3 e f = rw (← e, ← f) (expansion_of-fields h)

-- what decides the instruction of a halfword: the fields that the rows ask for
pub ruleset by_fields = (expansion_of-fields, nat_tests)
