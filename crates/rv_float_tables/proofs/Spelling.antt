-- No word meets two rows, of this table or of this one and that of whole numbers, so the first row that a word meets is the only one.
use Rattle.std.proofs.Common.{◌≡◌, ℕ, map, Option, Some, None, IsSome, refl, sym, ◌∙◌, ap}
use Rattle.std.specs.List.{AllPairs, Contains}
use Rattle.std.specs.Option.{option_flatten}
use Rattle.std.proofs.lemmas.Bool.{false≢true}
use Rattle.std.proofs.lemmas.Option.{same_Some}
use Rattle.rv_tables.specs.Rows as Integers
use Rattle.rv_tables.specs.Tables.{MeetsRow, IsDisjoint}
use Rattle.rv_tables.specs.declared.instr.Instr.{Instr}
use Rattle.rv_tables.proofs.Pairs.{AllPairs-from_pass}
use Rattle.rv_tables.proofs.Spelling as IntegerSpelling
use Rattle.rv_tables.proofs.Tables.{apart, IsDisjoint-from_apart, HasDisjointRows, HasDisjointRows-from_apart}
use Rattle.rv_tables.proofs.Tables.{tables_apart, read_off-met, Reads-from_read_off, read_off-Reads}
use Rattle.rv_float_tables.specs.declared.instr.FloatInstr.{FloatInstr}
use Rattle.rv_float_tables.specs.Rows.{FloatEncoding, float_encodings, Spells, IsReserved, float_instruction_of}

pub encodings_disjoint : HasDisjointRows float_encodings
unfolding float_encodings
encodings_disjoint = HasDisjointRows-from_apart float_encodings refl

pub rows_disjoint : AllPairs IsDisjoint (map (λ e. e.row) float_encodings)
unfolding float_encodings
rows_disjoint = AllPairs-from_pass apart IsDisjoint (map (λ e. e.row) float_encodings) IsDisjoint-from_apart refl

pub apart_from_integers : (e : FloatEncoding) (r : Integers.Encoding) → Contains float_encodings e → Contains Integers.encodings r
    → IsDisjoint e.row r.row
unfolding float_encodings Integers.encodings
apart_from_integers = tables_apart float_encodings Integers.encodings refl

pub float_instruction_of-met : (w : ℕ) (e : FloatEncoding) → Contains float_encodings e → MeetsRow w e.row
    → float_instruction_of w ≡ e.read w
unfolding float_instruction_of
float_instruction_of-met w e listed met = ap option_flatten (read_off-met float_encodings encodings_disjoint w e listed met)

pub Spells-from_instruction : (w : ℕ) (i : FloatInstr) → float_instruction_of w ≡ Some i → Spells w i
unfolding float_instruction_of
Spells-from_instruction w i h = Reads-from_read_off float_encodings w (Some i) (read_by_some _ h) where
  read_by_some : (o : Option (Option FloatInstr)) → option_flatten o ≡ Some i → o ≡ Some (Some i)
  read_by_some None h = cc
  read_by_some (Some read) h = ap Some h

pub float_instruction_of-Spells : (w : ℕ) (i : FloatInstr) → Spells w i → float_instruction_of w ≡ Some i
unfolding float_instruction_of
float_instruction_of-Spells w i s = ap option_flatten (read_off-Reads float_encodings encodings_disjoint w (Some i) s)

pub same_from_Spells : (w : ℕ) (i j : FloatInstr) → Spells w i → Spells w j → i ≡ j
same_from_Spells w i j s t = same_Some i j (sym (float_instruction_of-Spells w i s) ∙ float_instruction_of-Spells w j t)

pub float_instruction_of-reserved : (w : ℕ) → IsReserved w → float_instruction_of w ≡ None
unfolding float_instruction_of
float_instruction_of-reserved w r = ap option_flatten (read_off-Reads float_encodings encodings_disjoint w None r)

-- a word with an instruction of whole numbers has none of floating point
pub none_of_integers : (w : ℕ) → IsSome (float_instruction_of w) → Integers.instruction_of w ≡ None
none_of_integers w some = by_cases (float_instruction_of w) refl some where
  of_row : (i : FloatInstr) → float_instruction_of w ≡ Some i → (o : Option Instr) → Integers.instruction_of w ≡ o → o ≡ None
  of_row i h None e = refl
  of_row i h (Some j) e =
      let s = Spells-from_instruction w i h in
      let t = IntegerSpelling.Spells-from_instruction w j e in
      absurd (apart_from_integers s.encoding t.encoding s.listed t.listed w s.met t.met)

  by_cases : (o : Option FloatInstr) → float_instruction_of w ≡ o → IsSome o → Integers.instruction_of w ≡ None
  by_cases None e some = absurd (false≢true some)
  by_cases (Some i) e some = of_row i e (Integers.instruction_of w) refl
