-- No word meets two rows, so the first row that a word meets is the only one.
use Rattle.std.proofs.Common.{◌≡◌, ℕ, map, Some, refl, sym, ◌∙◌}
use Rattle.std.specs.List.{AllPairs, Contains}
use Rattle.std.proofs.lemmas.Option.{same_Some}
use Rattle.rv_tables.specs.declared.instr.Instr.{Instr}
use Rattle.rv_tables.specs.Rows.{Encoding, encodings, Spells, instruction_of}
use Rattle.rv_tables.specs.Tables.{MeetsRow, IsDisjoint}
use Rattle.rv_tables.proofs.Pairs.{AllPairs-from_pass}
use Rattle.rv_tables.proofs.Tables.{apart, IsDisjoint-from_apart, HasDisjointRows, HasDisjointRows-from_apart, read_off-met}
use Rattle.rv_tables.proofs.Tables.{Reads-from_read_off, read_off-Reads}

pub encodings_disjoint : HasDisjointRows encodings
unfolding encodings
encodings_disjoint = HasDisjointRows-from_apart encodings refl

pub rows_disjoint : AllPairs IsDisjoint (map (λ e. e.row) encodings)
unfolding encodings
rows_disjoint = AllPairs-from_pass apart IsDisjoint (map (λ e. e.row) encodings) IsDisjoint-from_apart refl

pub instruction_of-met : (w : ℕ) (e : Encoding) → Contains encodings e → MeetsRow w e.row → instruction_of w ≡ Some (e.read w)
unfolding instruction_of
instruction_of-met w e listed met = read_off-met encodings encodings_disjoint w e listed met

pub Spells-from_instruction : (w : ℕ) (i : Instr) → instruction_of w ≡ Some i → Spells w i
unfolding instruction_of
Spells-from_instruction w i h = Reads-from_read_off encodings w i h

pub instruction_of-Spells : (w : ℕ) (i : Instr) → Spells w i → instruction_of w ≡ Some i
unfolding instruction_of
instruction_of-Spells w i s = read_off-Reads encodings encodings_disjoint w i s

pub same_from_Spells : (w : ℕ) (i j : Instr) → Spells w i → Spells w j → i ≡ j
same_from_Spells w i j s t = same_Some i j (sym (instruction_of-Spells w i s) ∙ instruction_of-Spells w j t)
