-- Where a word is the only one of its row with these operands, it is the only one that spells the instruction.
use Rattle.std.proofs.Common.{◌≡◌, ℕ, Bool, true, false, not, List, Option, Some, None, ℤ, refl, sym, ◌∙◌, ap}
use Rattle.std.specs.List.{AllPairs}
use Rattle.std.specs.Option.{option_map, option_map_or}
use Rattle.std.specs.Str.{bytes_eq}
use Rattle.std.specs.Cmp.Lexicographic.{bytes_decides}
use Rattle.std.proofs.lemmas.Bool.{both_ways, not-true, true≢false}
use Rattle.std.proofs.lemmas.Option.{IfSome_then, same_Some}
use Rattle.rv_tables.specs.Fields.{rd, rs1, rs2}
use Rattle.rv_tables.specs.Tables.{MeetsRow}
use Rattle.rv_tables.specs.Words.{IsIWord, IsSWord, IsRWord, IsOnlyWord}
use Rattle.rv_tables.proofs.Finds.{find-found}
use Rattle.rv_tables.proofs.Pairs.{AllPairs-from_pass, same_by_pairs}
use Rattle.rv_float_tables.specs.declared.instr.FloatForm.{FloatForm}
use Rattle.rv_float_tables.specs.declared.instr.FloatForm.TheVariants as form
use Rattle.rv_float_tables.specs.declared.instr.FloatInstr.{FloatInstr}
use Rattle.rv_float_tables.specs.declared.instr.FloatInstr.TheVariants.{Load, Store, Fused, Arithmetic}
use Rattle.rv_float_tables.specs.declared.instr.Format.{Format}
use Rattle.rv_float_tables.specs.declared.instr.RoundingField.{RoundingField}
use Rattle.rv_float_tables.specs.declared.instr.ArithmeticOp.{ArithmeticOp}
use Rattle.rv_float_tables.specs.declared.instr.FusedOp.{FusedOp}
use Rattle.rv_float_tables.specs.declared.instr.FloatCsr.{FloatCsr}
use Rattle.rv_float_tables.specs.Fields.{rs3, rm, csr, rounding_code, rounding_of, csr_number, csr_of}
use Rattle.rv_float_tables.specs.Mnemonics.{float_mnemonic_of, has_mnemonic, float_row_named, sample, load_mnemonic, store_mnemonic}
use Rattle.rv_float_tables.specs.Mnemonics.{fused_mnemonic, arithmetic_mnemonic}
use Rattle.rv_float_tables.specs.Rows.{FloatEncoding, float_encodings, float_instruction_of, rounded, on_csr, load_of, store_of, fused_of}
use Rattle.rv_float_tables.specs.Rows.{arithmetic_of}
use Rattle.rv_float_tables.specs.Words.{row_of, IsRowValue, IsR4Word, IsRoundedWord, IsRoundedUnaryWord, IsUnaryWord, IsCsrWord}
use Rattle.rv_float_tables.proofs.FieldCodes.{rounding_of-code, rounding_code-from_of, csr_of-number, csr_number-from_of}
use Rattle.rv_float_tables.proofs.RowReads.{Suits-spelled}
use Rattle.rv_float_tables.proofs.Spelling.{float_instruction_of-met, Spells-from_instruction}

-- the mnemonic of a row, or none where the row reads nothing off the sample
abbrev name : FloatEncoding → Option (List ℕ)
name e = option_map float_mnemonic_of (e.read sample)

-- the test whether a row has another mnemonic
abbrev is_named_apart : Option (List ℕ) → Option (List ℕ) → Bool
is_named_apart None other = false
is_named_apart (Some n) None = false
is_named_apart (Some n) (Some m) = not (bytes_eq n m)

apart-not_same : (a b : Option (List ℕ)) → is_named_apart a b ≡ true → a ≡ b → ⊥
apart-not_same None b h e = true≢false (sym h)
apart-not_same (Some n) None h e = true≢false (sym h)
apart-not_same (Some n) (Some m) h e = both_ways _ (not-true _ h) ((bytes_decides n m).1 (same_Some n m e))

abbrev HasOtherName : FloatEncoding → FloatEncoding → Type 0
HasOtherName e f = name e ≡ name f → ⊥

other_names : AllPairs HasOtherName float_encodings
unfolding float_encodings
other_names =
    AllPairs-from_pass (λ e f. is_named_apart (name e) (name f)) HasOtherName float_encodings (λ e f. apart-not_same (name e) (name f)) refl

-- what a row's mnemonic is, where the test finds it
named : (n : List ℕ) (e : FloatEncoding) → has_mnemonic n e ≡ true → name e ≡ Some n
named n e h = by_cases (e.read sample) h where
  by_cases : (o : Option FloatInstr) → option_map_or (λ i. bytes_eq (float_mnemonic_of i) n) o false ≡ true
      → option_map float_mnemonic_of o ≡ Some n
  by_cases None h = absurd (true≢false (sym h))
  by_cases (Some i) h = ap Some ((bytes_decides (float_mnemonic_of i) n).0 h)

-- the row with the mnemonic of an instruction is the one that a word of it meets
row_of_spelled : (w : ℕ) (i : FloatInstr) (e : FloatEncoding) → float_row_named (float_mnemonic_of i) ≡ Some e
    → float_instruction_of w ≡ Some i → MeetsRow w e.row × (e.read w ≡ Some i)
unfolding float_row_named
row_of_spelled w i e found_by h =
    let s = Spells-from_instruction w i h in
    let found = find-found (has_mnemonic (float_mnemonic_of i)) float_encodings e found_by in
    let one_name : name e ≡ name s.encoding = named (float_mnemonic_of i) e found.1 ∙ sym (Suits-spelled w i s).1 in
    let same : s.encoding ≡ e =
    same_by_pairs HasOtherName float_encodings s.encoding e other_names s.listed found.0 (λ other. other (sym one_name))
    (λ other. other one_name) in
    rw (← same) (s.met, s.operands)

spelled_by_row : (w : ℕ) (i : FloatInstr) (e : FloatEncoding) → float_row_named (float_mnemonic_of i) ≡ Some e → MeetsRow w e.row
    → e.read w ≡ Some i → float_instruction_of w ≡ Some i
unfolding float_row_named
spelled_by_row w i e found_by met reads =
    float_instruction_of-met w e (find-found (has_mnemonic (float_mnemonic_of i)) float_encodings e found_by).0 met ∙ reads

pub IsOnlyWord-spells : (i : FloatInstr) (e : FloatEncoding) (P : ℕ → Type 0) (r : Option ℕ)
    → float_row_named (float_mnemonic_of i) ≡ Some e → ((w : ℕ) → P w → MeetsRow w e.row × (e.read w ≡ Some i))
    → ((w : ℕ) → MeetsRow w e.row → e.read w ≡ Some i → P w) → IsOnlyWord P r → IsOnlyWord (λ w. float_instruction_of w ≡ Some i) r
IsOnlyWord-spells i e P r found_by to_row from_row only = (
  IfSome_then r only.0 (λ w p. spelled_by_row w i e found_by (to_row w p).0 (to_row w p).1),
  λ w fits h.
      let parts = row_of_spelled w i e found_by h in
      only.1 w fits (from_row w parts.0 parts.1),
)

-- ---- rounding modes and CSRs that rows read

-- a word with the code of a rounding mode reads it
rounded_at : (w : ℕ) (r : RoundingField) (make : RoundingField → FloatInstr) → rm w ≡ rounding_code r → rounded w make ≡ Some (make r)
rounded_at w r make e = ap (λ n. option_map make (rounding_of n)) e ∙ ap (option_map make) (rounding_of-code r)

-- what is read with a rounding mode was made with that of the word
rounded_from : (w : ℕ) (make : RoundingField → FloatInstr) (i : FloatInstr) → rounded w make ≡ Some i
    → (r : RoundingField) × (rm w ≡ rounding_code r) × (make r ≡ i)
rounded_from w make i h = by_mode (rounding_of (rm w)) refl h where
  by_mode : (o : Option RoundingField) → rounding_of (rm w) ≡ o → option_map make o ≡ Some i
      → (r : RoundingField) × (rm w ≡ rounding_code r) × (make r ≡ i)
  by_mode None at h = cc
  by_mode (Some r) at h = (r, rounding_code-from_of (rm w) r at, same_Some (make r) i h)

-- the same of a CSR by its number
csr_at : (w : ℕ) (c : FloatCsr) (make : FloatCsr → FloatInstr) → csr w ≡ csr_number c → on_csr w make ≡ Some (make c)
csr_at w c make e = ap (λ n. option_map make (csr_of n)) e ∙ ap (option_map make) (csr_of-number c)

csr_from : (w : ℕ) (make : FloatCsr → FloatInstr) (i : FloatInstr) → on_csr w make ≡ Some i
    → (c : FloatCsr) × (csr w ≡ csr_number c) × (make c ≡ i)
csr_from w make i h = by_csr (csr_of (csr w)) refl h where
  by_csr : (o : Option FloatCsr) → csr_of (csr w) ≡ o → option_map make o ≡ Some i
      → (c : FloatCsr) × (csr w ≡ csr_number c) × (make c ≡ i)
  by_csr None at h = cc
  by_csr (Some c) at h = (c, csr_number-from_of (csr w) c at, same_Some (make c) i h)

-- ---- the words of the forms, by the row's value and what the form makes of the operands

pub only_load : (v d a : ℕ) (imm : ℤ) (format : Format) (r : Option ℕ)
    → IsRowValue 0x707F form.Load (load_of format) (load_mnemonic format) v
    → IsOnlyWord (IsIWord v d a imm) r → IsOnlyWord (λ w. float_instruction_of w ≡ Some (Load format d a imm)) r
only_load v d a imm format r value =
    IsOnlyWord-spells (Load format d a imm) (row_of 0x707F v form.Load (load_of format)) (IsIWord v d a imm) r value.row
    (λ w p. (p.0, cc)) (λ w met h. (met, cc, cc, cc))

pub only_store : (v a b : ℕ) (imm : ℤ) (format : Format) (r : Option ℕ)
    → IsRowValue 0x707F form.Store (store_of format) (store_mnemonic format) v
    → IsOnlyWord (IsSWord v a b imm) r → IsOnlyWord (λ w. float_instruction_of w ≡ Some (Store format a b imm)) r
only_store v a b imm format r value =
    IsOnlyWord-spells (Store format a b imm) (row_of 0x707F v form.Store (store_of format)) (IsSWord v a b imm) r value.row
    (λ w p. (p.0, cc)) (λ w met h. (met, cc, cc, cc))

pub only_fused : (v d a b c : ℕ) (mode : RoundingField) (op : FusedOp) (format : Format) (r : Option ℕ)
    → IsRowValue 0x600007F form.Fused (fused_of op format) (fused_mnemonic op format) v
    → IsOnlyWord (IsR4Word v d (rounding_code mode) a b c) r
    → IsOnlyWord (λ w. float_instruction_of w ≡ Some (Fused op format d a b c mode)) r
only_fused v d a b c mode op format r value =
    IsOnlyWord-spells (Fused op format d a b c mode) (row_of 0x600007F v form.Fused (fused_of op format))
    (IsR4Word v d (rounding_code mode) a b c) r value.row
    (λ w p. (p.0, rounded_at w mode (Fused op format (rd w) (rs1 w) (rs2 w) (rs3 w)) p.2 ∙ cc))
    (λ w met h.
    let (found, code, made) =
    rounded_from w (Fused op format (rd w) (rs1 w) (rs2 w) (rs3 w)) (Fused op format d a b c mode) h in
    let same : found ≡ mode = cc in (met, cc, code ∙ ap rounding_code same, cc, cc, cc))

pub only_arithmetic : (v d a b : ℕ) (mode : RoundingField) (op : ArithmeticOp) (format : Format) (r : Option ℕ)
    → IsRowValue 0xFE00007F form.Arithmetic (arithmetic_of op format) (arithmetic_mnemonic op format) v
    → IsOnlyWord (IsRoundedWord v d (rounding_code mode) a b) r
    → IsOnlyWord (λ w. float_instruction_of w ≡ Some (Arithmetic op format d a b mode)) r
only_arithmetic v d a b mode op format r value =
    IsOnlyWord-spells (Arithmetic op format d a b mode) (row_of 0xFE00007F v form.Arithmetic (arithmetic_of op format))
    (IsRoundedWord v d (rounding_code mode) a b) r value.row
    (λ w p. (p.0, rounded_at w mode (Arithmetic op format (rd w) (rs1 w) (rs2 w)) p.2 ∙ cc))
    (λ w met h.
    let (found, code, made) = rounded_from w (Arithmetic op format (rd w) (rs1 w) (rs2 w)) (Arithmetic op format d a b mode) h in
    let same : found ≡ mode = cc in (met, cc, code ∙ ap rounding_code same, cc, cc))

-- a square root, or a conversion
pub only_rounded_unary : (make : ℕ → ℕ → RoundingField → FloatInstr)
    → ((d a e b : ℕ) (m n : RoundingField) → make d a m ≡ make e b n → (d ≡ e) × (a ≡ b) × (m ≡ n))
    → (f : FloatForm) (v d a : ℕ) (mode : RoundingField) (r : Option ℕ)
    → IsRowValue 0xFFF0007F f (λ w. rounded w (make (rd w) (rs1 w))) (float_mnemonic_of (make d a mode)) v
    → IsOnlyWord (IsRoundedUnaryWord v d (rounding_code mode) a) r
    → IsOnlyWord (λ w. float_instruction_of w ≡ Some (make d a mode)) r
only_rounded_unary make injective f v d a mode r value =
    IsOnlyWord-spells (make d a mode) (row_of 0xFFF0007F v f (λ w. rounded w (make (rd w) (rs1 w))))
    (IsRoundedUnaryWord v d (rounding_code mode) a) r value.row
    (λ w p. (p.0, rounded_at w mode (make (rd w) (rs1 w)) p.2 ∙ rw (p.1, p.3) refl))
    (λ w met h.
    let (found, code, made) = rounded_from w (make (rd w) (rs1 w)) (make d a mode) h in
    let same = injective (rd w) (rs1 w) d a found mode made in (met, same.0, code ∙ ap rounding_code same.2, same.1))

-- an injection of a sign, a minimum or maximum, or a comparison
pub only_binary : (make : ℕ → ℕ → ℕ → FloatInstr)
    → ((d a b e f g : ℕ) → make d a b ≡ make e f g → (d ≡ e) × (a ≡ f) × (b ≡ g))
    → (f : FloatForm) (v d a b : ℕ) (r : Option ℕ)
    → IsRowValue 0xFE00707F f (λ w. Some (make (rd w) (rs1 w) (rs2 w))) (float_mnemonic_of (make d a b)) v
    → IsOnlyWord (IsRWord v d a b) r → IsOnlyWord (λ w. float_instruction_of w ≡ Some (make d a b)) r
only_binary make injective f v d a b r value =
    IsOnlyWord-spells (make d a b) (row_of 0xFE00707F v f (λ w. Some (make (rd w) (rs1 w) (rs2 w)))) (IsRWord v d a b) r value.row
    (λ w p. (p.0, rw (p.1, p.2, p.3) refl))
    (λ w met h. let same = injective (rd w) (rs1 w) (rs2 w) d a b (same_Some _ _ h) in (met, same.0, same.1, same.2))

-- a classification, or a move
pub only_unary : (make : ℕ → ℕ → FloatInstr) → ((d a e b : ℕ) → make d a ≡ make e b → (d ≡ e) × (a ≡ b))
    → (f : FloatForm) (v d a : ℕ) (r : Option ℕ)
    → IsRowValue 0xFFF0707F f (λ w. Some (make (rd w) (rs1 w))) (float_mnemonic_of (make d a)) v
    → IsOnlyWord (IsUnaryWord v d a) r → IsOnlyWord (λ w. float_instruction_of w ≡ Some (make d a)) r
only_unary make injective f v d a r value =
    IsOnlyWord-spells (make d a) (row_of 0xFFF0707F v f (λ w. Some (make (rd w) (rs1 w)))) (IsUnaryWord v d a) r value.row
    (λ w p. (p.0, rw (p.1, p.2) refl))
    (λ w met h. let same = injective (rd w) (rs1 w) d a (same_Some _ _ h) in (met, same.0, same.1))

-- what reads and writes a CSR: an immediate stands where rs1 does
pub only_csr : (make : FloatCsr → ℕ → ℕ → FloatInstr)
    → ((c x : FloatCsr) (d a e b : ℕ) → make c d a ≡ make x e b → (c ≡ x) × (d ≡ e) × (a ≡ b))
    → (f : FloatForm) (v d a : ℕ) (c : FloatCsr) (r : Option ℕ)
    → IsRowValue 0x707F f (λ w. on_csr w (λ x. make x (rd w) (rs1 w))) (float_mnemonic_of (make c d a)) v
    → IsOnlyWord (IsCsrWord v d a (csr_number c)) r → IsOnlyWord (λ w. float_instruction_of w ≡ Some (make c d a)) r
only_csr make injective f v d a c r value =
    IsOnlyWord-spells (make c d a) (row_of 0x707F v f (λ w. on_csr w (λ x. make x (rd w) (rs1 w)))) (IsCsrWord v d a (csr_number c)) r
    value.row
    (λ w p. (p.0, csr_at w c (λ x. make x (rd w) (rs1 w)) p.3 ∙ rw (p.1, p.2) refl))
    (λ w met h.
    let (x, number, made) = csr_from w (λ x. make x (rd w) (rs1 w)) (make c d a) h in
    let same = injective x c (rd w) (rs1 w) d a made in (met, same.1, same.2, number ∙ ap csr_number same.0))
