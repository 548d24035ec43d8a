-- No word meets two rows, of this table or of this one and that of whole numbers or of floating point, so the first row that a word meets
-- is the only one.
use Rattle.std.proofs.Common.{◌≡◌, ℕ, map, Option, Some, None, IsSome, refl, sym, ◌∙◌}
use Rattle.std.specs.List.{AllPairs, Contains}
use Rattle.std.specs.Option.{option_flatten}
use Rattle.std.proofs.lemmas.Bool.{false≢true}
use Rattle.std.proofs.lemmas.Option.{same_Some}
use Rattle.rv_tables.specs.Rows as Integers
use Rattle.rv_tables.specs.Tables.{MeetsRow, IsDisjoint}
use Rattle.rv_tables.specs.declared.instr.Instr.{Instr}
use Rattle.rv_tables.proofs.Pairs.{AllPairs-from_pass}
use Rattle.rv_tables.proofs.Spelling as IntegerSpelling
use Rattle.rv_tables.proofs.Tables.{apart, IsDisjoint-from_apart, HasDisjointRows, HasDisjointRows-from_apart}
use Rattle.rv_tables.proofs.Tables.{tables_apart, read_off-met, Reads-from_read_off, read_off-Reads}
use Rattle.rv_float_tables.specs.Rows as Floats
use Rattle.rv_float_tables.specs.declared.instr.FloatInstr.{FloatInstr}
use Rattle.rv_float_tables.proofs.Spelling as FloatSpelling
use Rattle.rv_atomics.specs.declared.instr.AtomicInstr.{AtomicInstr}
use Rattle.rv_atomics.specs.Rows.{AtomicEncoding, atomic_encodings, Spells, atomic_instruction_of}

pub encodings_disjoint : HasDisjointRows atomic_encodings
unfolding atomic_encodings
encodings_disjoint = HasDisjointRows-from_apart atomic_encodings refl

pub rows_disjoint : AllPairs IsDisjoint (map (λ e. e.row) atomic_encodings)
unfolding atomic_encodings
rows_disjoint = AllPairs-from_pass apart IsDisjoint (map (λ e. e.row) atomic_encodings) IsDisjoint-from_apart refl

apart_from_integers : (e : AtomicEncoding) (r : Integers.Encoding) → Contains atomic_encodings e → Contains Integers.encodings r
    → IsDisjoint e.row r.row
unfolding atomic_encodings Integers.encodings
apart_from_integers = tables_apart atomic_encodings Integers.encodings refl

apart_from_floats : (e : AtomicEncoding) (r : Floats.FloatEncoding) → Contains atomic_encodings e → Contains Floats.float_encodings r
    → IsDisjoint e.row r.row
unfolding atomic_encodings Floats.float_encodings
apart_from_floats = tables_apart atomic_encodings Floats.float_encodings refl

pub Spells-from_instruction : (w : ℕ) (i : AtomicInstr) → atomic_instruction_of w ≡ Some i → Spells w i
unfolding atomic_instruction_of
Spells-from_instruction w i h = Reads-from_read_off atomic_encodings w i h

pub atomic_instruction_of-Spells : (w : ℕ) (i : AtomicInstr) → Spells w i → atomic_instruction_of w ≡ Some i
unfolding atomic_instruction_of
atomic_instruction_of-Spells w i s = read_off-Reads atomic_encodings encodings_disjoint w i s

-- the row that a word meets reads its instruction
pub atomic_instruction_of-met : (w : ℕ) (e : AtomicEncoding) → Contains atomic_encodings e → MeetsRow w e.row
    → atomic_instruction_of w ≡ Some (e.read w)
unfolding atomic_instruction_of
atomic_instruction_of-met w e listed met = read_off-met atomic_encodings encodings_disjoint w e listed met

pub same_from_Spells : (w : ℕ) (i j : AtomicInstr) → Spells w i → Spells w j → i ≡ j
same_from_Spells w i j s t = same_Some i j (sym (atomic_instruction_of-Spells w i s) ∙ atomic_instruction_of-Spells w j t)

-- a word with an instruction of A has none of whole numbers
pub none_of_integers : (w : ℕ) → IsSome (atomic_instruction_of w) → Integers.instruction_of w ≡ None
none_of_integers w some = by_cases (atomic_instruction_of w) refl some where
  of_row : (i : AtomicInstr) → atomic_instruction_of w ≡ Some i → (o : Option Instr) → Integers.instruction_of w ≡ o → o ≡ None
  of_row i h None e = refl
  of_row i h (Some j) e =
      let s = Spells-from_instruction w i h in
      let t = IntegerSpelling.Spells-from_instruction w j e in
      absurd (apart_from_integers s.encoding t.encoding s.listed t.listed w s.met t.met)

  by_cases : (o : Option AtomicInstr) → atomic_instruction_of w ≡ o → IsSome o → Integers.instruction_of w ≡ None
  by_cases None e some = absurd (false≢true some)
  by_cases (Some i) e some = of_row i e (Integers.instruction_of w) refl

-- and none of floating point
pub none_of_floats : (w : ℕ) → IsSome (atomic_instruction_of w) → Floats.float_instruction_of w ≡ None
none_of_floats w some = by_cases (atomic_instruction_of w) refl some where
  of_row : (i : AtomicInstr) → atomic_instruction_of w ≡ Some i → (o : Option FloatInstr) → Floats.float_instruction_of w ≡ o → o ≡ None
  of_row i h None e = refl
  of_row i h (Some j) e =
      let s = Spells-from_instruction w i h in
      let t = FloatSpelling.Spells-from_instruction w j e in
      absurd (apart_from_floats s.encoding t.encoding s.listed t.listed w s.met t.met)

  by_cases : (o : Option AtomicInstr) → atomic_instruction_of w ≡ o → IsSome o → Floats.float_instruction_of w ≡ None
  by_cases None e some = absurd (false≢true some)
  by_cases (Some i) e some = of_row i e (Floats.float_instruction_of w) refl
