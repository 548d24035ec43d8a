-- Where a word is the only one of format R with these operands, it is the only one that spells the instruction.
use Rattle.std.proofs.Common.{◌≡◌, ℕ, ◌+◌, ◌*◌, ◌^◌, ◌<◌, List, not, Option, Some, bit_and, refl, sym, ◌∙◌, ap, arith}
use Rattle.std.specs.List.{AllPairs}
use Rattle.std.specs.Str.{bytes_eq}
use Rattle.std.specs.Cmp.Lexicographic.{bytes_decides}
use Rattle.std.proofs.lemmas.Bool.{both_ways, not-true}
use Rattle.std.proofs.lemmas.Bool.Decides.{nat_tests}
use Rattle.std.proofs.lemmas.Option.{IfSome_then}
use Rattle.rv_tables.specs.Fields.{rd, rs1, rs2, bits}
use Rattle.rv_tables.specs.Tables.{MeetsRow}
use Rattle.rv_tables.specs.Words.{IsRWord, IsOnlyWord}
use Rattle.rv_tables.proofs.Finds.{find-found}
use Rattle.rv_tables.proofs.Masks.{under_707F, under_FE00707F}
use Rattle.rv_tables.proofs.Pairs.{AllPairs-from_pass, same_by_pairs}
use Rattle.rv_atomics.specs.declared.instr.AmoOp.{AmoOp}
use Rattle.rv_atomics.specs.declared.instr.AtomicForm.TheVariants as form
use Rattle.rv_atomics.specs.declared.instr.AtomicInstr.{AtomicInstr}
use Rattle.rv_atomics.specs.declared.instr.AtomicInstr.TheVariants.{LoadReserved, StoreConditional, Amo}
use Rattle.rv_atomics.specs.declared.instr.Order.{Order}
use Rattle.rv_atomics.specs.declared.instr.Order.TheVariants.{Unordered, Release, Acquire, Sequential}
use Rattle.rv_atomics.specs.Mnemonics.{amo_name, row_name, atomic_row_named}
use Rattle.rv_atomics.specs.Rows.{AtomicEncoding, atomic_encodings, atomic_instruction_of, amo_of, load_reserved_row, store_conditional_row}
use Rattle.rv_atomics.specs.Rows.{order, order_of}
use Rattle.rv_atomics.specs.Words.{order_code, row_of, IsRowValue}
use Rattle.rv_atomics.proofs.Masks.{under_F800707F, under_F9F0707F}
use Rattle.rv_atomics.proofs.RowReads.{row_name-spelled}
use Rattle.rv_atomics.proofs.Spelling.{atomic_instruction_of-met, Spells-from_instruction}

-- the name of a row
abbrev name : AtomicEncoding → List ℕ
name e = row_name (e.read 0)

abbrev HasOtherName : AtomicEncoding → AtomicEncoding → Type 0
HasOtherName e f = name e ≡ name f → ⊥

other_names : AllPairs HasOtherName atomic_encodings
unfolding atomic_encodings
other_names =
    AllPairs-from_pass (λ e f. not (bytes_eq (name e) (name f))) HasOtherName atomic_encodings
    (λ e f h same. both_ways _ (not-true _ h) ((bytes_decides (name e) (name f)).1 same)) refl

-- the row with the name of an instruction is the one that a word of it meets
row_of_spelled : (w : ℕ) (i : AtomicInstr) (e : AtomicEncoding) → atomic_row_named (row_name i) ≡ Some e
    → atomic_instruction_of w ≡ Some i → MeetsRow w e.row × (e.read w ≡ i)
unfolding atomic_row_named
row_of_spelled w i e named h =
    let s = Spells-from_instruction w i h in
    let found = find-found (λ f. bytes_eq (name f) (row_name i)) atomic_encodings e named in
    let name_e : name e ≡ row_name i = (bytes_decides (name e) (row_name i)).0 found.1 in
    let one_name : name e ≡ name s.encoding = name_e ∙ row_name-spelled w i s in
    let same : s.encoding ≡ e =
    same_by_pairs HasOtherName atomic_encodings s.encoding e other_names s.listed found.0 (λ other. other (sym one_name))
    (λ other. other one_name) in
    rw (← same) (s.met, s.operands)

spelled_by_row : (w : ℕ) (i : AtomicInstr) (e : AtomicEncoding) → atomic_row_named (row_name i) ≡ Some e → MeetsRow w e.row
    → e.read w ≡ i → atomic_instruction_of w ≡ Some i
unfolding atomic_row_named
spelled_by_row w i e named met reads =
    atomic_instruction_of-met w e (find-found (λ f. bytes_eq (name f) (row_name i)) atomic_encodings e named).0 met ∙ ap Some reads

IsOnlyWord-spells : (i : AtomicInstr) (e : AtomicEncoding) (P : ℕ → Type 0) (r : Option ℕ) → atomic_row_named (row_name i) ≡ Some e
    → ((w : ℕ) → P w → MeetsRow w e.row × (e.read w ≡ i)) → ((w : ℕ) → MeetsRow w e.row → e.read w ≡ i → P w) → IsOnlyWord P r
    → IsOnlyWord (λ w. atomic_instruction_of w ≡ Some i) r
IsOnlyWord-spells i e P r named to_row from_row only = (
  IfSome_then r only.0 (λ w p. spelled_by_row w i e named (to_row w p).0 (to_row w p).1),
  λ w fits h.
      let parts = row_of_spelled w i e named h in
      only.1 w fits (from_row w parts.0 parts.1),
)

-- ---- aq and rl

order_of-code : (o : Order) → order_of (order_code o) ≡ o
order_of-code Unordered = refl
order_of-code Release = refl
order_of-code Acquire = refl
order_of-code Sequential = refl

code-order_of : (n : ℕ) → n < 4 → order_code (order_of n) ≡ n
code-order_of n small = grind (arith, nat_tests)

code-small : (o : Order) → order_code o < 4
code-small Unordered = omega arith
code-small Release = omega arith
code-small Acquire = omega arith
code-small Sequential = omega arith

-- funct7 of a word is funct5 of a row, and behind it aq and rl of an order
split : (w v : ℕ) (o : Order) → bit_and v 0xF800707F ≡ v → bit_and w 0xFE00707F ≡ v + order_code o * 2 ^ 25
    → (bit_and w 0xF800707F ≡ v) × (order w ≡ o)
split w v o own h =
    let code : bits w 26 25 ≡ order_code o =
    omega (arith, under_FE00707F w, under_F800707F w, under_F800707F v, own, h, code-small o) in
    (omega (arith, under_FE00707F w, under_F800707F w, under_F800707F v, own, h, code-small o), ap order_of code ∙ order_of-code o)

joined : (w v : ℕ) (o : Order) → bit_and w 0xF800707F ≡ v → order w ≡ o → bit_and w 0xFE00707F ≡ v + order_code o * 2 ^ 25
joined w v o met is =
    let code : order_code o ≡ bits w 26 25 = ap order_code (sym is) ∙ code-order_of (bits w 26 25) (omega arith) in
    omega (arith, under_FE00707F w, under_F800707F w, met, code)

-- a row's value with aq and rl has no bits outside funct7, funct3 and the opcode, and is a word
pub with_order-own : (v : ℕ) (o : Order) → bit_and v 0xF800707F ≡ v
    → bit_and (v + order_code o * 2 ^ 25) 0xFE00707F ≡ v + order_code o * 2 ^ 25
with_order-own v o own = omega (arith, under_FE00707F (v + order_code o * 2 ^ 25), under_F800707F v, own, code-small o)

pub with_order-fits : (v : ℕ) (o : Order) → bit_and v 0xF800707F ≡ v → v + order_code o * 2 ^ 25 < 2 ^ 32
with_order-fits v o own = omega (arith, under_F800707F v, own, code-small o)

-- ---- the words of the forms

pub only_load_reserved : (d a : ℕ) (o : Order) (r : Option ℕ) → IsOnlyWord (IsRWord (0x1000202F + order_code o * 2 ^ 25) d a 0) r
    → IsOnlyWord (λ w. atomic_instruction_of w ≡ Some (LoadReserved o d a)) r
unfolding atomic_row_named atomic_encodings
only_load_reserved d a o r =
    IsOnlyWord-spells (LoadReserved o d a) (load_reserved_row 0b00010 0b00000 0b010 0b0101111)
    (IsRWord (0x1000202F + order_code o * 2 ^ 25) d a 0) r refl
    (λ w p.
    let s = split w 0x1000202F o refl p.0 in
    (omega (arith, under_F800707F w, under_F9F0707F w, s.0, p.3), rw (s.1, p.1, p.2) refl))
    (λ w met h.
    let without : bit_and w 0xF800707F ≡ 0x1000202F = omega (arith, under_F800707F w, under_F9F0707F w, met) in
    (joined w 0x1000202F o without cc, cc, cc, omega (arith, under_F9F0707F w, met)))

pub only_store_conditional : (d a b : ℕ) (o : Order) (r : Option ℕ) → IsOnlyWord (IsRWord (0x1800202F + order_code o * 2 ^ 25) d a b) r
    → IsOnlyWord (λ w. atomic_instruction_of w ≡ Some (StoreConditional o d a b)) r
unfolding atomic_row_named atomic_encodings
only_store_conditional d a b o r =
    IsOnlyWord-spells (StoreConditional o d a b) (store_conditional_row 0b00011 0b010 0b0101111)
    (IsRWord (0x1800202F + order_code o * 2 ^ 25) d a b) r refl
    (λ w p. let s = split w 0x1800202F o refl p.0 in (s.0, rw (s.1, p.1, p.2, p.3) refl))
    (λ w met h. (joined w 0x1800202F o met cc, cc, cc, cc))

pub only_amo : (v d a b : ℕ) (op : AmoOp) (o : Order) (r : Option ℕ) → IsRowValue 0xF800707F form.Amo (amo_of op) (amo_name op) v
    → IsOnlyWord (IsRWord (v + order_code o * 2 ^ 25) d a b) r → IsOnlyWord (λ w. atomic_instruction_of w ≡ Some (Amo op o d a b)) r
only_amo v d a b op o r value =
    IsOnlyWord-spells (Amo op o d a b) (row_of 0xF800707F v form.Amo (amo_of op)) (IsRWord (v + order_code o * 2 ^ 25) d a b) r value.row
    (λ w p. let s = split w v o value.own p.0 in (s.0, rw (s.1, p.1, p.2, p.3) refl))
    (λ w met h. (joined w v o met cc, cc, cc, cc))
