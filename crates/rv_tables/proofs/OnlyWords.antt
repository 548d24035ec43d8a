-- Where a word is the only one of its row with these operands, it is the only one that spells the instruction.
use Rattle.std.proofs.Common.{◌≡◌, ℕ, ◌<◌, ◌^◌, List, not, Option, Some, ℤ, refl, sym, ◌∙◌, ap}
use Rattle.std.specs.List.{AllPairs}
use Rattle.std.specs.Str.{bytes_eq}
use Rattle.std.specs.Cmp.Lexicographic.{bytes_decides}
use Rattle.std.proofs.lemmas.Bool.{both_ways, not-true}
use Rattle.std.proofs.lemmas.Option.{IfSome_then}
use Rattle.rv_tables.specs.declared.instr.Instr.{Instr}
use Rattle.rv_tables.specs.declared.instr.Instr.TheVariants.{R, I, Shift, Load, Store, Branch, Upper, Jal, Jalr, Plain}
use Rattle.rv_tables.specs.declared.instr.ROp.{ROp}
use Rattle.rv_tables.specs.declared.instr.IOp.{IOp}
use Rattle.rv_tables.specs.declared.instr.ShiftOp.{ShiftOp}
use Rattle.rv_tables.specs.declared.instr.LoadOp.{LoadOp}
use Rattle.rv_tables.specs.declared.instr.StoreOp.{StoreOp}
use Rattle.rv_tables.specs.declared.instr.BranchOp.{BranchOp}
use Rattle.rv_tables.specs.declared.instr.UpperOp.{UpperOp}
use Rattle.rv_tables.specs.Mnemonics.{mnemonic_of, row_named, r_mnemonic, i_mnemonic, shift_mnemonic, load_mnemonic, store_mnemonic}
use Rattle.rv_tables.specs.Mnemonics.{branch_mnemonic, upper_mnemonic}
use Rattle.rv_tables.specs.Rows.{Encoding, encodings, instruction_of, jal_row, jalr_row, system_row}
use Rattle.rv_tables.specs.Tables.{MeetsRow}
use Rattle.rv_tables.specs.Words.{r_row_of, i_row_of, shift_row_of, load_row_of, store_row_of, branch_row_of, upper_row_of, IsRWord}
use Rattle.rv_tables.specs.Words.{IsIWord, IsSWord, IsBWord, IsUWord, IsJWord, IsOnlyWord}
use Rattle.rv_tables.specs.declared.instr.PlainOp.TheVariants.{Ecall, Ebreak}
use Rattle.rv_tables.proofs.Masks.{under_FFFFFFFF}
use Rattle.rv_tables.proofs.Pairs.{AllPairs-from_pass, same_by_pairs}
use Rattle.rv_tables.proofs.RowReads.{mnemonic_of-spelled}
use Rattle.rv_tables.proofs.Finds.{find-found}
use Rattle.rv_tables.proofs.Spelling.{instruction_of-met, Spells-from_instruction}

-- the mnemonic of a row
abbrev name : Encoding → List ℕ
name e = mnemonic_of (e.read 0)

abbrev HasOtherName : Encoding → Encoding → Type 0
HasOtherName e f = name e ≡ name f → ⊥

other_names : AllPairs HasOtherName encodings
unfolding encodings
other_names =
    AllPairs-from_pass (λ e f. not (bytes_eq (name e) (name f))) HasOtherName encodings
    (λ e f h same. both_ways _ (not-true _ h) ((bytes_decides (name e) (name f)).1 same)) refl

-- the row with the mnemonic of an instruction is the one that a word of it meets
row_of_spelled : (w : ℕ) (i : Instr) (e : Encoding) → row_named (mnemonic_of i) ≡ Some e → instruction_of w ≡ Some i
    → MeetsRow w e.row × (e.read w ≡ i)
unfolding row_named
row_of_spelled w i e named h =
    let s = Spells-from_instruction w i h in
    let found = find-found (λ f. bytes_eq (name f) (mnemonic_of i)) encodings e named in
    let name_e : name e ≡ mnemonic_of i = (bytes_decides (name e) (mnemonic_of i)).0 found.1 in
    let one_name : name e ≡ name s.encoding = name_e ∙ mnemonic_of-spelled w i s in
    let same : s.encoding ≡ e =
    same_by_pairs HasOtherName encodings s.encoding e other_names s.listed found.0 (λ other. other (sym one_name))
    (λ other. other one_name) in
    rw (← same) (s.met, s.operands)

spelled_by_row : (w : ℕ) (i : Instr) (e : Encoding) → row_named (mnemonic_of i) ≡ Some e → MeetsRow w e.row → e.read w ≡ i
    → instruction_of w ≡ Some i
unfolding row_named
spelled_by_row w i e named met reads =
    instruction_of-met w e (find-found (λ f. bytes_eq (name f) (mnemonic_of i)) encodings e named).0 met ∙ ap Some reads

pub IsOnlyWord-spells : (i : Instr) (e : Encoding) (P : ℕ → Type 0) (r : Option ℕ) → row_named (mnemonic_of i) ≡ Some e
    → ((w : ℕ) → P w → MeetsRow w e.row × (e.read w ≡ i)) → ((w : ℕ) → MeetsRow w e.row → e.read w ≡ i → P w) → IsOnlyWord P r
    → IsOnlyWord (λ w. instruction_of w ≡ Some i) r
IsOnlyWord-spells i e P r named to_row from_row only = (
  IfSome_then r only.0 (λ w p. spelled_by_row w i e named (to_row w p).0 (to_row w p).1),
  λ w fits h.
      let parts = row_of_spelled w i e named h in
      only.1 w fits (from_row w parts.0 parts.1),
)

pub only_r : (v : ℕ) (d a b : ℕ) (op : ROp) (r : Option ℕ) → row_named (r_mnemonic op) ≡ Some (r_row_of v op)
    → IsOnlyWord (IsRWord v d a b) r → IsOnlyWord (λ w. instruction_of w ≡ Some (R op d a b)) r
only_r v d a b op r named =
    IsOnlyWord-spells (R op d a b) (r_row_of v op) (IsRWord v d a b) r named (λ w p. (p.0, cc)) (λ w met h. (met, cc, cc, cc))

pub only_i : (v : ℕ) (d a : ℕ) (imm : ℤ) (op : IOp) (r : Option ℕ) → row_named (i_mnemonic op) ≡ Some (i_row_of v op)
    → IsOnlyWord (IsIWord v d a imm) r → IsOnlyWord (λ w. instruction_of w ≡ Some (I op d a imm)) r
only_i v d a imm op r named =
    IsOnlyWord-spells (I op d a imm) (i_row_of v op) (IsIWord v d a imm) r named (λ w p. (p.0, cc)) (λ w met h. (met, cc, cc, cc))

pub only_shift : (v : ℕ) (d a shamt : ℕ) (op : ShiftOp) (r : Option ℕ) → row_named (shift_mnemonic op) ≡ Some (shift_row_of v op)
    → IsOnlyWord (IsRWord v d a shamt) r → IsOnlyWord (λ w. instruction_of w ≡ Some (Shift op d a shamt)) r
only_shift v d a shamt op r named =
    IsOnlyWord-spells (Shift op d a shamt) (shift_row_of v op) (IsRWord v d a shamt) r named (λ w p. (p.0, cc))
    (λ w met h. (met, cc, cc, cc))

pub only_load : (v : ℕ) (d a : ℕ) (imm : ℤ) (op : LoadOp) (r : Option ℕ) → row_named (load_mnemonic op) ≡ Some (load_row_of v op)
    → IsOnlyWord (IsIWord v d a imm) r → IsOnlyWord (λ w. instruction_of w ≡ Some (Load op d a imm)) r
only_load v d a imm op r named =
    IsOnlyWord-spells (Load op d a imm) (load_row_of v op) (IsIWord v d a imm) r named (λ w p. (p.0, cc)) (λ w met h. (met, cc, cc, cc))

pub only_store : (v : ℕ) (a b : ℕ) (imm : ℤ) (op : StoreOp) (r : Option ℕ) → row_named (store_mnemonic op) ≡ Some (store_row_of v op)
    → IsOnlyWord (IsSWord v a b imm) r → IsOnlyWord (λ w. instruction_of w ≡ Some (Store op a b imm)) r
only_store v a b imm op r named =
    IsOnlyWord-spells (Store op a b imm) (store_row_of v op) (IsSWord v a b imm) r named (λ w p. (p.0, cc)) (λ w met h. (met, cc, cc, cc))

pub only_branch : (v : ℕ) (a b : ℕ) (imm : ℤ) (op : BranchOp) (r : Option ℕ) → row_named (branch_mnemonic op) ≡ Some (branch_row_of v op)
    → IsOnlyWord (IsBWord v a b imm) r → IsOnlyWord (λ w. instruction_of w ≡ Some (Branch op a b imm)) r
only_branch v a b imm op r named =
    IsOnlyWord-spells (Branch op a b imm) (branch_row_of v op) (IsBWord v a b imm) r named (λ w p. (p.0, cc)) (λ w met h. (met, cc, cc, cc))

pub only_upper : (v : ℕ) (d imm : ℕ) (op : UpperOp) (r : Option ℕ) → row_named (upper_mnemonic op) ≡ Some (upper_row_of v op)
    → IsOnlyWord (IsUWord v d imm) r → IsOnlyWord (λ w. instruction_of w ≡ Some (Upper op d imm)) r
only_upper v d imm op r named =
    IsOnlyWord-spells (Upper op d imm) (upper_row_of v op) (IsUWord v d imm) r named (λ w p. (p.0, cc)) (λ w met h. (met, cc, cc))

pub only_jal : (d : ℕ) (imm : ℤ) (r : Option ℕ) → IsOnlyWord (IsJWord 0x6F d imm) r
    → IsOnlyWord (λ w. instruction_of w ≡ Some (Jal d imm)) r
unfolding row_named encodings
only_jal d imm r =
    IsOnlyWord-spells (Jal d imm) (jal_row 0b1101111) (IsJWord 0x6F d imm) r refl (λ w p. (p.0, cc)) (λ w met h. (met, cc, cc))

pub only_jalr : (d a : ℕ) (imm : ℤ) (r : Option ℕ) → IsOnlyWord (IsIWord 0x67 d a imm) r
    → IsOnlyWord (λ w. instruction_of w ≡ Some (Jalr d a imm)) r
unfolding row_named encodings
only_jalr d a imm r =
    IsOnlyWord-spells (Jalr d a imm) (jalr_row 0 0b1100111) (IsIWord 0x67 d a imm) r refl (λ w p. (p.0, cc)) (λ w met h. (met, cc, cc, cc))

pub only_ecall : (w : ℕ) → w < 2 ^ 32 → instruction_of w ≡ Some (Plain Ecall) → 0x73 ≡ w
unfolding row_named encodings
only_ecall w fits h =
    sym (row_of_spelled w (Plain Ecall) (system_row 0 0 0 0 0b1110011 Ecall) refl h).0 ∙ under_FFFFFFFF w fits

pub only_ebreak : (w : ℕ) → w < 2 ^ 32 → instruction_of w ≡ Some (Plain Ebreak) → 0x100073 ≡ w
unfolding row_named encodings
only_ebreak w fits h =
    sym (row_of_spelled w (Plain Ebreak) (system_row 1 0 0 0 0b1110011 Ebreak) refl h).0 ∙ under_FFFFFFFF w fits

pub ruleset systems = (only_ecall, only_ebreak)
