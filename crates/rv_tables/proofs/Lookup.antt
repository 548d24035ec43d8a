-- A word meets a row where it has the row's opcode and the row's value: the rows of other opcodes drop out of the lookup.
use Rattle.std.proofs.Common.{◌≡◌, ℕ, Some, Bool, true, false, ◌&&◌, refl, sym, ap, ◌∙◌, arith, eqb, bit_and, Option, inl, inr}
use Rattle.std.specs.List.{find}
use Rattle.std.specs.Option.{option_map}
use Rattle.std.proofs.lemmas.Bool.{cases_eq, eqb-true, eq-eqb, ne_eqb, and_right}
use Rattle.std.proofs.lemmas.Bool.Decides.{nat_tests}
use Rattle.std.proofs.lemmas.Nat.{and_mask, and_mod}
use Rattle.rv_tables.specs.Fields.{opcode, rd, j_immediate}
use Rattle.rv_tables.specs.Rows.{encodings, instruction_of}
use Rattle.rv_tables.specs.Tables.{RowEncoding, meets}
use Rattle.rv_tables.specs.declared.instr.Instr.{Instr}
use Rattle.rv_tables.specs.declared.instr.Instr.TheVariants.{Jal}
use Rattle.rv_tables.proofs.Finds.{find-agree}
use Rattle.rv_tables.proofs.Masks.{under_7F, under_707F, under_FE00707F}

-- a mask that has the bits of the opcode leaves the opcode as it is
opcode_under : (w m : ℕ) → opcode m ≡ 0x7F → opcode (bit_and w m) ≡ opcode w
opcode_under w m h = and_mod w m 7 ∙ ap (bit_and (opcode w)) h ∙ and_mask (opcode w) 7 ∙ omega arith

-- the opcode and the value under the mask are those of the row
abbrev pub meets_at : {F R : Type 0} → ℕ → ℕ → RowEncoding F R → Bool
meets_at op w e = eqb op (opcode e.row.value) && meets w e

pub meets-at : {F R : Type 0} (w : ℕ) (e : RowEncoding F R) → eqb (opcode e.row.mask) 0x7F ≡ true → meets w e ≡ meets_at (opcode w) w e
meets-at w e k =
    let same = opcode_under w e.row.mask (eqb-true (opcode e.row.mask) 0x7F k) in
    elim (cases_eq (bit_and w e.row.mask) e.row.value) [
      | inl met ↦ let op : opcode w ≡ opcode e.row.value = sym same ∙ ap opcode met in
          rw (op, eq-eqb (opcode e.row.value) (opcode e.row.value) refl)
      | inr not_met ↦
          rw (ne_eqb (bit_and w e.row.mask) e.row.value not_met) (sym (and_right (eqb (opcode w) (opcode e.row.value)) false refl))
    ]

-- the instruction of a word, among the rows of its opcode alone
unfoldable pub instruction_at : ℕ → ℕ → Option Instr
instruction_at op w = option_map (λ e. e.read w) (find (meets_at op w) encodings)

pub of_opcode : (w : ℕ) → instruction_of w ≡ instruction_at (opcode w) w
unfolding instruction_of instruction_at encodings
of_opcode w =
    ap (option_map (λ e. e.read w))
    (find-agree (meets w) (meets_at (opcode w) w) (λ e. eqb (opcode e.row.mask) 0x7F) encodings (λ e k. meets-at w e k) refl)

-- what decides the instruction of a word: the values that it has under the masks of its opcode's rows
pub ruleset by_value = (of_opcode, under_7F, nat_tests)

-- the same where a shorter mask tells what a word has under a longer one
pub ruleset by_values = (by_value, under_707F, under_FE00707F)

pub jal : (w : ℕ) → opcode w ≡ 0x6F → instruction_of w ≡ Some (Jal (rd w) (j_immediate w))
unfolding instruction_at encodings
jal w o = grind (arith, by_value)
