-- The instruction that a halfword of each row expands to, by its quadrant and funct3, and the halfwords of none. No halfword is of two
-- rows, of this table or of this one and that of whole numbers.
use Rattle.std.proofs.Common.{◌≡◌, ◌≢◌, ℕ, Option, Some, None, IsSome, pos, refl, ◌∙◌, arith}
use Rattle.std.specs.List.{All, AllPairs, Contains, find}
use Rattle.std.specs.Option.{option_map}
use Rattle.std.proofs.lemmas.Bool.{ne_eqb, false≢true}
use Rattle.std.proofs.lemmas.Int.{ints}
use Rattle.std.proofs.lemmas.List.Elements.{All-from_recursion, All-contains}
use Rattle.rv_tables.specs.declared.instr.Instr.{Instr}
use Rattle.rv_tables.specs.Compressed as Integers
use Rattle.rv_tables.specs.CompressedTables.{CompressedRow, expanded, AreDisjoint}
use Rattle.rv_tables.specs.Halfwords.{quadrant, funct3, rd, rs2, rs1_prime, rs2_prime, immediate, word_layout, lwsp_layout, swsp_layout}
use Rattle.rv_tables.specs.Operands.{IsFound, IsImmediate}
use Rattle.rv_tables.proofs.CompressedLookup.{meets_at}
use Rattle.rv_tables.proofs.CompressedReads.{word_offset, lwsp_offset, swsp_offset}
use Rattle.rv_tables.proofs.CompressedSpelling as IntegerSpelling
use Rattle.rv_tables.proofs.CompressedTables.{apart, AreDisjoint-from_apart, tables_apart}
use Rattle.rv_tables.proofs.CompressedTables.{of_met, ExpandsBy-from_expansion, expansion_by-ExpandsBy}
use Rattle.rv_tables.proofs.Pairs.{AllPairs-from_pass}
use Rattle.rv_tables.proofs.Tables.{found}
use Rattle.rv_float_tables.specs.declared.instr.FloatInstr.{FloatInstr}
use Rattle.rv_float_tables.specs.declared.instr.FloatInstr.TheVariants.{Load, Store}
use Rattle.rv_float_tables.specs.declared.instr.Format.TheVariants.{Single, Double}
use Rattle.rv_float_tables.specs.Compressed.{float_compressed_rows, float_expansion_of, Expands}
use Rattle.rv_float_tables.specs.Halfwords.{double_layout, fldsp_layout, fsdsp_layout}
use Rattle.rv_float_tables.specs.Operands.{IsEncodable}

-- the instruction that a halfword expands to, looked up by its quadrant and funct3
unfoldable expansion_at : ℕ → ℕ → ℕ → Option FloatInstr
expansion_at h q f3 = option_map (expanded h) (find (meets_at h q f3) float_compressed_rows)

float_expansion_of-fields : (h : ℕ) → float_expansion_of h ≡ expansion_at h (quadrant h) (funct3 h)
unfolding float_expansion_of expansion_at
float_expansion_of-fields h = refl

at_fields : (h q f3 : ℕ) → quadrant h ≡ q → funct3 h ≡ f3 → float_expansion_of h ≡ expansion_at h q f3
at_fields h q f3 e f = rw (← e, ← f) (float_expansion_of-fields h)

pub fld : (h : ℕ) → quadrant h ≡ 0 → funct3 h ≡ 1
    → float_expansion_of h ≡ Some (Load Double (rs2_prime h) (rs1_prime h) (pos (immediate h double_layout)))
unfolding expansion_at float_compressed_rows
fld h q f = at_fields h 0 1 q f

pub flw : (h : ℕ) → quadrant h ≡ 0 → funct3 h ≡ 3
    → float_expansion_of h ≡ Some (Load Single (rs2_prime h) (rs1_prime h) (pos (immediate h word_layout)))
unfolding expansion_at float_compressed_rows
flw h q f = at_fields h 0 3 q f

pub fsd : (h : ℕ) → quadrant h ≡ 0 → funct3 h ≡ 5
    → float_expansion_of h ≡ Some (Store Double (rs1_prime h) (rs2_prime h) (pos (immediate h double_layout)))
unfolding expansion_at float_compressed_rows
fsd h q f = at_fields h 0 5 q f

pub fsw : (h : ℕ) → quadrant h ≡ 0 → funct3 h ≡ 7
    → float_expansion_of h ≡ Some (Store Single (rs1_prime h) (rs2_prime h) (pos (immediate h word_layout)))
unfolding expansion_at float_compressed_rows
fsw h q f = at_fields h 0 7 q f

pub no_funct3_0 : (h : ℕ) → quadrant h ≡ 0 → funct3 h ≢ 1 → funct3 h ≢ 3 → funct3 h ≢ 5 → funct3 h ≢ 7 → float_expansion_of h ≡ None
unfolding expansion_at float_compressed_rows
no_funct3_0 h q n1 n3 n5 n7 =
    at_fields h 0 _ q refl ∙ rw (ne_eqb (funct3 h) 1 n1, ne_eqb (funct3 h) 3 n3, ne_eqb (funct3 h) 5 n5, ne_eqb (funct3 h) 7 n7)

pub fldsp : (h : ℕ) → quadrant h ≡ 2 → funct3 h ≡ 1 → float_expansion_of h ≡ Some (Load Double (rd h) 2 (pos (immediate h fldsp_layout)))
unfolding expansion_at float_compressed_rows
fldsp h q f = at_fields h 2 1 q f

pub flwsp : (h : ℕ) → quadrant h ≡ 2 → funct3 h ≡ 3 → float_expansion_of h ≡ Some (Load Single (rd h) 2 (pos (immediate h lwsp_layout)))
unfolding expansion_at float_compressed_rows
flwsp h q f = at_fields h 2 3 q f

pub fsdsp : (h : ℕ) → quadrant h ≡ 2 → funct3 h ≡ 5 → float_expansion_of h ≡ Some (Store Double 2 (rs2 h) (pos (immediate h fsdsp_layout)))
unfolding expansion_at float_compressed_rows
fsdsp h q f = at_fields h 2 5 q f

pub fswsp : (h : ℕ) → quadrant h ≡ 2 → funct3 h ≡ 7 → float_expansion_of h ≡ Some (Store Single 2 (rs2 h) (pos (immediate h swsp_layout)))
unfolding expansion_at float_compressed_rows
fswsp h q f = at_fields h 2 7 q f

pub no_funct3_2 : (h : ℕ) → quadrant h ≡ 2 → funct3 h ≢ 1 → funct3 h ≢ 3 → funct3 h ≢ 5 → funct3 h ≢ 7 → float_expansion_of h ≡ None
unfolding expansion_at float_compressed_rows
no_funct3_2 h q n1 n3 n5 n7 =
    at_fields h 2 _ q refl ∙ rw (ne_eqb (funct3 h) 1 n1, ne_eqb (funct3 h) 3 n3, ne_eqb (funct3 h) 5 n5, ne_eqb (funct3 h) 7 n7)

pub no_quadrant : (h : ℕ) → quadrant h ≢ 0 → quadrant h ≢ 2 → float_expansion_of h ≡ None
unfolding expansion_at float_compressed_rows
no_quadrant h n0 n2 = at_fields h _ _ refl refl ∙ rw (ne_eqb (quadrant h) 0 n0, ne_eqb (quadrant h) 2 n2)

pub ruleset expansions = (fld, flw, fsd, fsw, no_funct3_0, fldsp, flwsp, fsdsp, fswsp, no_funct3_2, no_quadrant)

-- ---- no halfword is of two rows

pub compressed_disjoint : AllPairs AreDisjoint float_compressed_rows
unfolding float_compressed_rows
compressed_disjoint = AllPairs-from_pass apart AreDisjoint float_compressed_rows AreDisjoint-from_apart refl

pub apart_from_integers : (r : CompressedRow FloatInstr) (s : CompressedRow Instr) → Contains float_compressed_rows r
    → Contains Integers.compressed_rows s → AreDisjoint r s
unfolding float_compressed_rows Integers.compressed_rows
apart_from_integers = tables_apart float_compressed_rows Integers.compressed_rows refl

pub Expands-from_expansion : (h : ℕ) (i : FloatInstr) → float_expansion_of h ≡ Some i → Expands h i
unfolding float_expansion_of
Expands-from_expansion h i e = ExpandsBy-from_expansion float_compressed_rows h i e

pub float_expansion_of-Expands : (h : ℕ) (i : FloatInstr) → Expands h i → float_expansion_of h ≡ Some i
unfolding float_expansion_of
float_expansion_of-Expands h i x = expansion_by-ExpandsBy float_compressed_rows compressed_disjoint h i x

-- a halfword with an expansion of floating point has none of whole numbers
pub none_of_integers : (h : ℕ) → IsSome (float_expansion_of h) → Integers.expansion_of h ≡ None
none_of_integers h some = by_cases (float_expansion_of h) refl some where
  of_row : (i : FloatInstr) → float_expansion_of h ≡ Some i → (o : Option Instr) → Integers.expansion_of h ≡ o → o ≡ None
  of_row i e None at = refl
  of_row i e (Some j) at =
      let x = Expands-from_expansion h i e in
      let y = IntegerSpelling.Expands-from_expansion h j at in
      absurd (apart_from_integers x.row y.row x.listed y.listed h (of_met h x.row x.met) (of_met h y.row y.met))

  by_cases : (o : Option FloatInstr) → float_expansion_of h ≡ o → IsSome o → Integers.expansion_of h ≡ None
  by_cases None e some = absurd (false≢true some)
  by_cases (Some i) e some = of_row i e (Integers.expansion_of h) refl

-- ---- operands in the ranges of their forms

abbrev ReadsWell : CompressedRow FloatInstr → Type 0
ReadsWell r = (h : ℕ) → IsEncodable (expanded h r)

double_offset : (h : ℕ) → IsImmediate (pos (immediate h double_layout))
double_offset h = grind (arith, ints)

fldsp_offset : (h : ℕ) → IsImmediate (pos (immediate h fldsp_layout))
fldsp_offset h = grind (arith, ints)

fsdsp_offset : (h : ℕ) → IsImmediate (pos (immediate h fsdsp_layout))
fsdsp_offset h = grind (arith, ints)

-- row by row, in the order of the list
each_row : All ReadsWell float_compressed_rows
unfolding float_compressed_rows
each_row =
    All-from_recursion ReadsWell float_compressed_rows (
      λ h. (omega arith, omega arith, double_offset h),
      (
        λ h. (omega arith, omega arith, word_offset h),
        (
          λ h. (omega arith, omega arith, double_offset h),
          (
            λ h. (omega arith, omega arith, word_offset h),
            (
              λ h. (omega arith, omega arith, fldsp_offset h),
              (
                λ h. (omega arith, omega arith, lwsp_offset h),
                (λ h. (omega arith, omega arith, fsdsp_offset h), (λ h. (omega arith, omega arith, swsp_offset h), tt)),
              ),
            ),
          ),
        ),
      ),
    )

pub IsEncodable-float_expansion_of : (h : ℕ) (i : FloatInstr) → float_expansion_of h ≡ Some i → IsEncodable i
IsEncodable-float_expansion_of h i e =
    let x = Expands-from_expansion h i e in
    rw (← x.instruction) (All-contains ReadsWell float_compressed_rows x.row each_row x.listed h)

pub found_halfword : (h : ℕ) (r : Option FloatInstr) → r ≡ float_expansion_of h → IsFound IsEncodable (float_expansion_of h) r
found_halfword h r e = found IsEncodable (float_expansion_of h) r (IsEncodable-float_expansion_of h) e
