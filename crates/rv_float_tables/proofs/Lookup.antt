-- A word meets a row where it has the row's opcode, and the row's funct5 if the row fixes it, and the row's value: the rows of others drop
-- out of the lookup.
use Rattle.std.proofs.Common.{◌≡◌, ℕ, zero, suc, ◌/◌, ◌%◌, ◌^◌, Bool, true, false, ◌&&◌, cond, refl, sym, ap, ◌∙◌, arith, eqb, ltb, bit_and}
use Rattle.std.proofs.Common.{Option, inl, inr}
use Rattle.std.specs.List.{find}
use Rattle.std.specs.Option.{option_map, option_flatten}
use Rattle.std.proofs.lemmas.Bool.{cases_eq, eqb-true, eq-eqb, ne_eqb, and_parts, and_right}
use Rattle.std.proofs.lemmas.Bool.Decides.{nat_tests}
use Rattle.std.proofs.lemmas.Nat.{and_mask, and_mod, and_shr}
use Rattle.rv_tables.specs.Fields.{opcode}
use Rattle.rv_tables.specs.Tables.{RowEncoding, meets}
use Rattle.rv_tables.proofs.Finds.{find-agree}
use Rattle.rv_tables.proofs.Lookup as Integers
use Rattle.rv_tables.proofs.Masks.{under_707F}
use Rattle.rv_float_tables.specs.declared.instr.FloatInstr.{FloatInstr}
use Rattle.rv_float_tables.specs.Fields.{funct5}
use Rattle.rv_float_tables.specs.Rows.{float_encodings, float_instruction_of}

-- a mask that has the bits of funct5 leaves funct5 as it is
funct5_under : (w m : ℕ) → funct5 m ≡ 0x1F → funct5 (bit_and w m) ≡ funct5 w
funct5_under w m h =
    ap (λ n. n % 2 ^ 5) (and_shr w m 27) ∙ and_mod (w / 2 ^ 27) (m / 2 ^ 27) 5 ∙ ap (bit_and (funct5 w)) h ∙ and_mask (funct5 w) 5
    ∙ omega arith

-- a row does not fix funct5, or has it of this kind
abbrev pub agrees : {F R : Type 0} → (ℕ → ℕ) → ℕ → RowEncoding F R → Bool
agrees kind f5 e = cond (eqb (funct5 e.row.mask) 0x1F) (eqb f5 (kind (funct5 e.row.value))) true

agrees-met : {F R : Type 0} (kind : ℕ → ℕ) (w : ℕ) (e : RowEncoding F R) → bit_and w e.row.mask ≡ e.row.value
    → agrees kind (kind (funct5 w)) e ≡ true
agrees-met kind w e met =
    elim (cases_eq (funct5 e.row.mask) 0x1F) [
      | inl fixed ↦
          let same : funct5 w ≡ funct5 e.row.value = sym (funct5_under w e.row.mask fixed) ∙ ap funct5 met in
          rw (fixed, same) (eq-eqb (kind (funct5 e.row.value)) (kind (funct5 e.row.value)) refl)
      | inr free ↦ rw (ne_eqb (funct5 e.row.mask) 0x1F free) refl
    ]

-- the kinds of the opcode and of funct5, and the value under the mask, are those of the row
abbrev pub meets_at : {F R : Type 0} → (opcode_kind funct5_kind : ℕ → ℕ) → ℕ → ℕ → ℕ → RowEncoding F R → Bool
meets_at opcode_kind funct5_kind op f5 w e = eqb op (opcode_kind (opcode e.row.value)) && (agrees funct5_kind f5 e && meets w e)

meets-at : {F R : Type 0} (opcode_kind funct5_kind : ℕ → ℕ) (w : ℕ) (e : RowEncoding F R) → eqb (opcode e.row.mask) 0x7F ≡ true
    → meets w e ≡ meets_at opcode_kind funct5_kind (opcode_kind (opcode w)) (funct5_kind (funct5 w)) w e
meets-at opcode_kind funct5_kind w e k =
    let with_opcode = Integers.meets-at w e k in
    elim (cases_eq (bit_and w e.row.mask) e.row.value) [
      | inl met ↦
          let here : meets w e ≡ true = eq-eqb (bit_and w e.row.mask) e.row.value met in
          let parts = and_parts (eqb (opcode w) (opcode e.row.value)) (meets w e) (sym with_opcode ∙ here) in
          let same : opcode w ≡ opcode e.row.value = eqb-true (opcode w) (opcode e.row.value) parts.0 in
          let kind = eq-eqb (opcode_kind (opcode w)) (opcode_kind (opcode e.row.value)) (ap opcode_kind same) in
          here ∙ sym (rw (kind, agrees-met funct5_kind w e met) here)
      | inr not_met ↦
          let not_here : meets w e ≡ false = ne_eqb (bit_and w e.row.mask) e.row.value not_met in
          let rest = and_right (agrees funct5_kind (funct5_kind (funct5 w)) e) (meets w e) not_here in
          not_here ∙ sym (and_right (eqb (opcode_kind (opcode w)) (opcode_kind (opcode e.row.value))) _ rest)
    ]

-- the instruction of a word, among the rows of these kinds alone
unfoldable pub among : (opcode_kind funct5_kind : ℕ → ℕ) → ℕ → ℕ → ℕ → Option FloatInstr
among opcode_kind funct5_kind op f5 w =
    option_flatten (option_map (λ e. e.read w) (find (meets_at opcode_kind funct5_kind op f5 w) float_encodings))

of_kinds : (opcode_kind funct5_kind : ℕ → ℕ) (w : ℕ)
    → float_instruction_of w ≡ among opcode_kind funct5_kind (opcode_kind (opcode w)) (funct5_kind (funct5 w)) w
unfolding float_instruction_of among float_encodings
of_kinds opcode_kind funct5_kind w =
    ap (λ found. option_flatten (option_map (λ e. e.read w) found))
    (find-agree (meets w) _ (λ e. eqb (opcode e.row.mask) 0x7F) float_encodings (λ e k. meets-at opcode_kind funct5_kind w e k) refl)

-- what a number gives, which computes only where the number is a numeral
abbrev pub at_numeral : {X : Type 0} → (ℕ → X) → ℕ → X
at_numeral f zero = f zero
at_numeral f (suc n) = f (suc n)

at_numeral-is : {X : Type 0} (f : ℕ → X) (n : ℕ) → f n ≡ at_numeral f n
at_numeral-is f zero = refl
at_numeral-is f (suc n) = refl

-- the opcodes of the fused rows are of one kind, and the funct5 of the arithmetic rows
abbrev pub opcode_kind : ℕ → ℕ
opcode_kind op = op / 2 ^ 4

abbrev pub funct5_kind : ℕ → ℕ
funct5_kind f5 = cond (ltb f5 4) 0 f5

pub of_fields : (w : ℕ) → float_instruction_of w
    ≡ at_numeral (λ op. at_numeral (λ f5. among opcode_kind funct5_kind op f5 w) (funct5_kind (funct5 w))) (opcode_kind (opcode w))
of_fields w =
    of_kinds opcode_kind funct5_kind w
    ∙ at_numeral-is (λ f5. among opcode_kind funct5_kind (opcode_kind (opcode w)) f5 w) (funct5_kind (funct5 w))
    ∙ at_numeral-is (λ op. at_numeral (λ f5. among opcode_kind funct5_kind op f5 w) (funct5_kind (funct5 w))) (opcode_kind (opcode w))

-- what decides the instruction of a word: the values that it has under the masks of the rows of its opcode and funct5
pub ruleset by_value = (of_fields, under_707F, nat_tests)

pub of_opcode : (w : ℕ) → float_instruction_of w ≡ at_numeral (λ op. among (λ n. n) (λ n. n) op (funct5 w) w) (opcode w)
of_opcode w = of_kinds (λ n. n) (λ n. n) w ∙ at_numeral-is (λ op. among (λ n. n) (λ n. n) op (funct5 w) w) (opcode w)

-- the same where funct5 is of no row
pub ruleset by_no_funct5 = (of_opcode, nat_tests)

pub of_others : (w : ℕ) → float_instruction_of w ≡ among (λ n. n) (λ n. n) (opcode w) (funct5 w) w
of_others w = of_kinds (λ n. n) (λ n. n) w

-- the same where the opcode is of no row
pub ruleset by_no_opcode = (of_others, nat_tests)
