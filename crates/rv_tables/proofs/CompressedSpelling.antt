-- No halfword is of two compressed rows, so the first row that a halfword meets is the only one.
use Rattle.std.proofs.Common.{◌≡◌, ℕ, true, false, Option, Some, None, refl, sym, ◌∙◌, ap}
use Rattle.std.specs.List.{AllPairs, Contains, find}
use Rattle.std.specs.Option.{option_map}
use Rattle.std.proofs.lemmas.Bool.{both_ways, and_parts}
use Rattle.rv_tables.specs.declared.instr.Instr.{Instr}
use Rattle.rv_tables.specs.Compressed.{compressed_rows, expansion_of, Expands}
use Rattle.rv_tables.specs.CompressedTables.{CompressedRow, has_none, is_of, meets, expanded, AreDisjoint}
use Rattle.rv_tables.proofs.CompressedTables.{apart, AreDisjoint-from_apart, one_row, ExpandsBy-from_expansion, expansion_by-met}
use Rattle.rv_tables.proofs.CompressedTables.{expansion_by-ExpandsBy}
use Rattle.rv_tables.proofs.Finds.{find-found}
use Rattle.rv_tables.proofs.Pairs.{AllPairs-from_pass}

pub compressed_disjoint : AllPairs AreDisjoint compressed_rows
unfolding compressed_rows
compressed_disjoint = AllPairs-from_pass apart AreDisjoint compressed_rows AreDisjoint-from_apart refl

pub Expands-from_expansion : (h : ℕ) (i : Instr) → expansion_of h ≡ Some i → Expands h i
unfolding expansion_of
Expands-from_expansion h i e = ExpandsBy-from_expansion compressed_rows h i e

pub expansion_of-met : (h : ℕ) (r : CompressedRow Instr) → Contains compressed_rows r → meets h r ≡ true
    → expansion_of h ≡ Some (expanded h r)
unfolding expansion_of
expansion_of-met h r listed met = expansion_by-met compressed_rows compressed_disjoint h r listed met

pub expansion_of-Expands : (h : ℕ) (i : Instr) → Expands h i → expansion_of h ≡ Some i
unfolding expansion_of
expansion_of-Expands h i x = expansion_by-ExpandsBy compressed_rows compressed_disjoint h i x

-- what is of a row but reserved meets no row
pub expansion_of-reserved : (h : ℕ) (r : CompressedRow Instr) → Contains compressed_rows r → is_of h r ≡ true
    → has_none h r.reserved ≡ false → expansion_of h ≡ None
unfolding expansion_of
expansion_of-reserved h r listed of_r reserved = from_first (find (meets h) compressed_rows) refl where
  from_first : (o : Option (CompressedRow Instr)) → find (meets h) compressed_rows ≡ o → option_map (expanded h) o ≡ None
  from_first None at = refl
  from_first (Some s) at =
      let found = find-found (meets h) compressed_rows s at in
      let parts = and_parts (is_of h s) (has_none h s.reserved) found.1 in
      let same : s ≡ r = one_row compressed_rows compressed_disjoint h s r found.0 listed parts.0 of_r in
      absurd (both_ways _ reserved (ap (λ x. has_none h x.reserved) (sym same) ∙ parts.1))
