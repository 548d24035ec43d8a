-- What holds of every line: its statement is in range, and memory is no fault of it.
use Rattle.std.proofs.Common.{◌≡◌, ◌≢◌, ℕ, ◌<◌, Bool, true, List, [], ◌∷◌, length}
use Rattle.std.proofs.Common.{ℤ, pos, Option, Some, None, Result, Ok, Err, subst, arith}
use Rattle.std.specs.Prelude.{IfSome}
use Rattle.std.specs.Option.{option_map}
use Rattle.std.proofs.lemmas.Int.{ints}
use Rattle.std.specs.List.{list_all, All}
use Rattle.rv_tables.specs.Operands.{IsRegister, IsImmediate}
use Rattle.rv_atomics.specs.declared.extensions.Extensions.{Extensions}
use Rattle.asm_syntax.specs.declared.error.LineError.{LineError}
use Rattle.asm_syntax.specs.declared.error.LineError.TheVariants.{NoMemory}
use Rattle.asm_syntax.specs.declared.form.Form.{Form}
use Rattle.asm_syntax.specs.declared.form.Form.TheVariants.{Arithmetic, WithImmediate, ShiftByAmount, LoadFrom, StoreTo, BranchTo}
use Rattle.asm_syntax.specs.declared.form.Form.TheVariants.{UpperImmediate, JumpAndLink, JumpAndLinkRegister, NoOperands, WordData}
use Rattle.asm_syntax.specs.declared.form.Form.TheVariants.{HalfData, ByteData, TextData, ZeroData, AlignData, EntryPoint, Nop, Move}
use Rattle.asm_syntax.specs.declared.form.Form.TheVariants.{LoadImmediate, LoadAddress, Jump, JumpRegister, Return, Call, BranchIfZero}
use Rattle.asm_syntax.specs.declared.form.Form.TheVariants.{BranchIfNotZero, Float, LoadReserved, StoreConditional, AtomicMemory}
use Rattle.asm_syntax.specs.Faults.{if_ok}
use Rattle.asm_syntax.specs.FloatOperands.{float_operation}
use Rattle.asm_syntax.specs.Forms.{form_named, reading}
use Rattle.asm_syntax.specs.Operands.{Address, Target, IsTarget, register_in, number_in}
use Rattle.asm_syntax.specs.Operands.{address_in, target_in, text_in, operands_in, fits_target}
use Rattle.asm_syntax.specs.Parse.{line_of, line_with, labels_in, behind_labels, statement_in, statement_of_form}
use Rattle.asm_syntax.specs.Ranges.{Range, up_to, signed, unsigned, is_within, IsWithin}
use Rattle.asm_syntax.specs.Shapes.{none, one, two, three, one_or_more, no_operands, a_register, two_registers, three_registers, a_number}
use Rattle.asm_syntax.specs.Shapes.{register_and_number, registers_and_number, register_and_address, a_target, register_and_target}
use Rattle.asm_syntax.specs.Shapes.{registers_and_target, register_and_base, registers_and_base, targets, numbers, a_text}
use Rattle.asm_syntax.specs.Statements.{Statement, Line, IsInRange, half_range, byte_range, word_range, most_space, most_align}
use Rattle.asm_syntax.specs.Tokens.{Token, name, tokens_of}
use Rattle.asm_syntax.proofs.FloatFacts.{float_operation-fault, float_operation-ok}
use Rattle.asm_syntax.proofs.InRange.{is_within-true, fits_target-true, judged-ok, judged-each}
use Rattle.asm_syntax.proofs.OperandFacts.{no_ok, if_ok-ok, one-some, two-some, three-some, register_in-some, address_in-some, immediate}
use Rattle.asm_syntax.proofs.OperandFacts.{magnitude, if_ok-fault, judged-fault}

-- operands of each shape are in their ranges
a_register-ok : (os : List (List Token)) (rs : ℕ) → a_register os ≡ Ok rs → IsRegister rs
a_register-ok os rs h =
    let found = judged-ok (λ _. true) (one register_in os) rs h in
    let o = one-some register_in os rs found.0 in register_in-some o.0 rs o.1

two_registers-ok : (os : List (List Token)) (o : ℕ × ℕ) → two_registers os ≡ Ok o → IsRegister o.0 × IsRegister o.1
two_registers-ok os o h =
    let found = judged-ok (λ _. true) (two register_in register_in os) o h in
    let t = two-some register_in register_in os o found.0 in (register_in-some t.0 o.0 t.2, register_in-some t.1 o.1 t.3)

three_registers-ok : (os : List (List Token)) (o : ℕ × ℕ × ℕ) → three_registers os ≡ Ok o → IsRegister o.0 × IsRegister o.1 × IsRegister o.2
three_registers-ok os o h =
    let found = judged-ok (λ _. true) (three register_in register_in register_in os) o h in
    let t = three-some register_in register_in register_in os o found.0 in
    (register_in-some t.0 o.0 t.3, register_in-some t.1 o.1 t.4, register_in-some t.2 o.2 t.5)

a_number-ok : (range : Range) (os : List (List Token)) (n : ℤ) → a_number range os ≡ Ok n → IsWithin range n
a_number-ok range os n h = is_within-true range n (judged-ok (is_within range) (one number_in os) n h).1

register_and_number-ok : (range : Range) (os : List (List Token)) (o : ℕ × ℤ) → register_and_number range os ≡ Ok o
    → IsRegister o.0 × IsWithin range o.1
register_and_number-ok range os o h =
    let found = judged-ok {X = ℕ × ℤ} (λ p. is_within range p.1) (two register_in number_in os) o h in
    let t = two-some register_in number_in os o found.0 in (register_in-some t.0 o.0 t.2, is_within-true range o.1 found.1)

registers_and_number-ok : (range : Range) (os : List (List Token)) (o : ℕ × ℕ × ℤ) → registers_and_number range os ≡ Ok o
    → IsRegister o.0 × IsRegister o.1 × IsWithin range o.2
registers_and_number-ok range os o h =
    let found = judged-ok {X = ℕ × ℕ × ℤ} (λ p. is_within range p.2) (three register_in register_in number_in os) o h in
    let t = three-some register_in register_in number_in os o found.0 in
    (register_in-some t.0 o.0 t.3, register_in-some t.1 o.1 t.4, is_within-true range o.2 found.1)

register_and_address-ok : (os : List (List Token)) (o : ℕ × Address) → register_and_address os ≡ Ok o
    → IsRegister o.0 × IsRegister o.1.base × IsImmediate o.1.offset
register_and_address-ok os o h =
    let found = judged-ok {X = ℕ × Address} (λ p. is_within (signed 12) p.1.offset) (two register_in address_in os) o h in
    let t = two-some register_in address_in os o found.0 in
    (register_in-some t.0 o.0 t.2, address_in-some t.1 o.1 t.3, immediate o.1.offset (is_within-true (signed 12) o.1.offset found.1))

register_and_base-ok : (os : List (List Token)) (o : ℕ × Address) → register_and_base os ≡ Ok o → IsRegister o.0 × IsRegister o.1.base
register_and_base-ok os o h =
    let found = judged-ok {X = ℕ × Address} (λ p. is_within (up_to 0) p.1.offset) (two register_in address_in os) o h in
    let t = two-some register_in address_in os o found.0 in
    (register_in-some t.0 o.0 t.2, address_in-some t.1 o.1 t.3)

registers_and_base-ok : (os : List (List Token)) (o : ℕ × ℕ × Address) → registers_and_base os ≡ Ok o
    → IsRegister o.0 × IsRegister o.2.base × IsRegister o.1
registers_and_base-ok os o h =
    let found = judged-ok {X = ℕ × ℕ × Address} (λ p. is_within (up_to 0) p.2.offset) (three register_in register_in address_in os) o h in
    let t = three-some register_in register_in address_in os o found.0 in
    (register_in-some t.0 o.0 t.3, address_in-some t.2 o.2 t.5, register_in-some t.1 o.1 t.4)

a_target-ok : (os : List (List Token)) (t : Target) → a_target os ≡ Ok t → IsTarget t
a_target-ok os t h = fits_target-true t (judged-ok fits_target (one target_in os) t h).1

register_and_target-ok : (os : List (List Token)) (o : ℕ × Target) → register_and_target os ≡ Ok o → IsRegister o.0 × IsTarget o.1
register_and_target-ok os o h =
    let found = judged-ok {X = ℕ × Target} (λ p. fits_target p.1) (two register_in target_in os) o h in
    let t = two-some register_in target_in os o found.0 in (register_in-some t.0 o.0 t.2, fits_target-true o.1 found.1)

registers_and_target-ok : (os : List (List Token)) (o : ℕ × ℕ × Target) → registers_and_target os ≡ Ok o
    → IsRegister o.0 × IsRegister o.1 × IsTarget o.2
registers_and_target-ok os o h =
    let found = judged-ok {X = ℕ × ℕ × Target} (λ p. fits_target p.2) (three register_in register_in target_in os) o h in
    let t = three-some register_in register_in target_in os o found.0 in
    (register_in-some t.0 o.0 t.3, register_in-some t.1 o.1 t.4, fits_target-true o.2 found.1)

targets-ok : (os : List (List Token)) (ts : List Target) → targets os ≡ Ok ts → (0 < length ts) × All IsTarget ts
targets-ok os ts h =
    let all = judged-each fits_target target_in os ts h in (all.0, λ k d within. fits_target-true _ (all.1 k d within))

numbers-ok : (range : Range) (os : List (List Token)) (ns : List ℤ) → numbers range os ≡ Ok ns → (0 < length ns) × All (IsWithin range) ns
numbers-ok range os ns h =
    let all = judged-each (is_within range) number_in os ns h in (all.0, λ k d within. is_within-true range _ (all.1 k d within))

-- what operands say is in range where the operands are
said : {X : Type 0} (P : X → Type 0) (operands : Result X LineError) (says : X → Statement) (s : Statement)
    → ((x : X) → operands ≡ Ok x → P x) → ((x : X) → P x → IsInRange (says x)) → if_ok says operands ≡ Ok s → IsInRange s
said P operands says s are then h =
    let parts = if_ok-ok says operands s h in subst IsInRange parts.2 (then parts.0 (are parts.0 parts.1))

-- a statement that is answered is in range
reading-in_range : (form : Form) (os : List (List Token)) (s : Statement) → reading form os ≡ Ok s → IsInRange s
reading-in_range (Arithmetic op) os s h = said _ (three_registers os) _ s (three_registers-ok os) (λ x p. p) h
reading-in_range (WithImmediate op) os s h =
    said _ (registers_and_number (signed 12) os) _ s (registers_and_number-ok (signed 12) os) (λ x p. (p.0, p.1, immediate x.2 p.2)) h
reading-in_range (ShiftByAmount op) os s h =
    said _ (registers_and_number (unsigned 5) os) _ s (registers_and_number-ok (unsigned 5) os)
    (λ x p. (p.0, p.1, omega (arith, magnitude 31 x.2 p.2))) h
reading-in_range (LoadFrom op) os s h = said _ (register_and_address os) _ s (register_and_address-ok os) (λ x p. p) h
reading-in_range (StoreTo op) os s h = said _ (register_and_address os) _ s (register_and_address-ok os) (λ x p. (p.1, p.0, p.2)) h
reading-in_range (BranchTo op) os s h = said _ (registers_and_target os) _ s (registers_and_target-ok os) (λ x p. p) h
reading-in_range (UpperImmediate op) os s h =
    said _ (register_and_number (unsigned 20) os) _ s (register_and_number-ok (unsigned 20) os)
    (λ x p. (p.0, omega (arith, magnitude 0xFFFFF x.1 p.1))) h
reading-in_range JumpAndLink os s h = said _ (register_and_target os) _ s (register_and_target-ok os) (λ x p. p) h
reading-in_range JumpAndLinkRegister os s h = said _ (register_and_address os) _ s (register_and_address-ok os) (λ x p. p) h
reading-in_range (NoOperands op) os s h = said (λ _. Unit {0}) (no_operands os) _ s (λ x e. tt) (λ x p. tt) h
reading-in_range WordData os s h = said _ (targets os) _ s (targets-ok os) (λ x p. p) h
reading-in_range HalfData os s h = said _ (numbers half_range os) _ s (numbers-ok half_range os) (λ x p. p) h
reading-in_range ByteData os s h = said _ (numbers byte_range os) _ s (numbers-ok byte_range os) (λ x p. p) h
reading-in_range TextData os s h = said (λ _. Unit {0}) (a_text os) _ s (λ x e. tt) (λ x p. tt) h
reading-in_range ZeroData os s h = said _ (a_number (up_to most_space) os) _ s (a_number-ok (up_to most_space) os) (magnitude most_space) h
reading-in_range AlignData os s h = said _ (a_number (up_to most_align) os) _ s (a_number-ok (up_to most_align) os) (magnitude most_align) h
reading-in_range EntryPoint os s h = said _ (a_target os) _ s (a_target-ok os) (λ x p. p) h
reading-in_range Nop os s h =
    said (λ _. Unit {0}) (no_operands os) _ s (λ x e. tt)
    (λ x p. (omega arith, omega arith, immediate (pos 0) (omega (arith, ints), omega (arith, ints)))) h
reading-in_range Move os s h =
    said _ (two_registers os) _ s (two_registers-ok os) (λ x p. (p.0, p.1, immediate (pos 0) (omega (arith, ints), omega (arith, ints)))) h
reading-in_range LoadImmediate os s h = said _ (register_and_number word_range os) _ s (register_and_number-ok word_range os) (λ x p. p) h
reading-in_range LoadAddress os s h = said _ (register_and_target os) _ s (register_and_target-ok os) (λ x p. p) h
reading-in_range Jump os s h = said _ (a_target os) _ s (a_target-ok os) (λ x p. (omega arith, p)) h
reading-in_range JumpRegister os s h =
    said _ (a_register os) _ s (a_register-ok os) (λ x p. (omega arith, p, immediate (pos 0) (omega (arith, ints), omega (arith, ints)))) h
reading-in_range Return os s h =
    said (λ _. Unit {0}) (no_operands os) _ s (λ x e. tt)
    (λ x p. (omega arith, omega arith, immediate (pos 0) (omega (arith, ints), omega (arith, ints)))) h
reading-in_range Call os s h = said _ (a_target os) _ s (a_target-ok os) (λ x p. (omega arith, p)) h
reading-in_range BranchIfZero os s h = said _ (register_and_target os) _ s (register_and_target-ok os) (λ x p. (p.0, omega arith, p.1)) h
reading-in_range BranchIfNotZero os s h = said _ (register_and_target os) _ s (register_and_target-ok os) (λ x p. (p.0, omega arith, p.1)) h
reading-in_range (Float form) os s h = said _ (float_operation form os) _ s (float_operation-ok form os) (λ x p. p) h
reading-in_range (LoadReserved order) os s h = said _ (register_and_base os) _ s (register_and_base-ok os) (λ x p. p) h
reading-in_range (StoreConditional order) os s h = said _ (registers_and_base os) _ s (registers_and_base-ok os) (λ x p. p) h
reading-in_range (AtomicMemory op order) os s h = said _ (registers_and_base os) _ s (registers_and_base-ok os) (λ x p. p) h

pub statement_in-in_range : (extensions : Extensions) (ts : List Token) (s : Option Statement) → statement_in extensions ts ≡ Ok s
    → IfSome s IsInRange
statement_in-in_range extensions [] s h = subst (λ (o : Option Statement). IfSome o IsInRange) (same h) tt where
  same : ◌≡◌ {A = Result (Option Statement) LineError} (Ok None) (Ok s) → None ≡ s
  same h = cc
statement_in-in_range extensions (name m ∷ ts) s h = by_form (form_named extensions m) h where
  by_form : (o : Option Form) → if_ok Some (statement_of_form o (operands_in ts)) ≡ Ok s → IfSome s IsInRange
  by_form None h = absurd (no_ok h)
  by_form (Some form) h =
      let parts = if_ok-ok {Y = Option Statement} Some (reading form (operands_in ts)) s h in
      subst (λ (o : Option Statement). IfSome o IsInRange) parts.2 (reading-in_range form (operands_in ts) parts.0 parts.1)
statement_in-in_range extensions _ s h = absurd (no_ok h)

-- the same of a value of the code that stands for a statement
pub IfSome-mapped : {S : Type 0} (value : S → Statement) (o : Option S) → IfSome (option_map value o) IsInRange
    → IfSome o (λ s. IsInRange (value s))
IfSome-mapped value None h = tt
IfSome-mapped value (Some s) h = h

line_with-in_range : (extensions : Extensions) (o : Option (List Token)) (line : Line) → line_with extensions o ≡ Ok line
    → IfSome line.statement IsInRange
line_with-in_range extensions None line h = absurd (no_ok h)
line_with-in_range extensions (Some ts) line h =
    let parts = if_ok-ok (λ s. record { labels = labels_in ts; statement = s }) (statement_in extensions (behind_labels ts)) line h in
    subst (λ (l : Line). IfSome l.statement IsInRange) parts.2 (statement_in-in_range extensions (behind_labels ts) parts.0 parts.1)

-- the statement of a line is in range
pub in_range : (extensions : Extensions) (line : List ℕ) (said : Line) → line_of extensions line ≡ Ok said → IfSome said.statement IsInRange
unfolding line_of
in_range extensions line said h = line_with-in_range extensions (tokens_of line) said h

-- no fault is want of memory
no_operands-fault : (os : List (List Token)) → no_operands os ≢ Err NoMemory
no_operands-fault os = judged-fault {X = Unit {0}} (λ _. true) (none os)

a_register-fault : (os : List (List Token)) → a_register os ≢ Err NoMemory
a_register-fault os = judged-fault {X = ℕ} (λ _. true) (one register_in os)

two_registers-fault : (os : List (List Token)) → two_registers os ≢ Err NoMemory
two_registers-fault os = judged-fault {X = ℕ × ℕ} (λ _. true) (two register_in register_in os)

three_registers-fault : (os : List (List Token)) → three_registers os ≢ Err NoMemory
three_registers-fault os = judged-fault {X = ℕ × ℕ × ℕ} (λ _. true) (three register_in register_in register_in os)

a_number-fault : (range : Range) (os : List (List Token)) → a_number range os ≢ Err NoMemory
a_number-fault range os = judged-fault {X = ℤ} (is_within range) (one number_in os)

register_and_number-fault : (range : Range) (os : List (List Token)) → register_and_number range os ≢ Err NoMemory
register_and_number-fault range os = judged-fault {X = ℕ × ℤ} (λ p. is_within range p.1) (two register_in number_in os)

registers_and_number-fault : (range : Range) (os : List (List Token)) → registers_and_number range os ≢ Err NoMemory
registers_and_number-fault range os = judged-fault {X = ℕ × ℕ × ℤ} (λ p. is_within range p.2) (three register_in register_in number_in os)

register_and_address-fault : (os : List (List Token)) → register_and_address os ≢ Err NoMemory
register_and_address-fault os = judged-fault {X = ℕ × Address} (λ p. is_within (signed 12) p.1.offset) (two register_in address_in os)

register_and_base-fault : (os : List (List Token)) → register_and_base os ≢ Err NoMemory
register_and_base-fault os = judged-fault {X = ℕ × Address} (λ p. is_within (up_to 0) p.1.offset) (two register_in address_in os)

registers_and_base-fault : (os : List (List Token)) → registers_and_base os ≢ Err NoMemory
registers_and_base-fault os =
    judged-fault {X = ℕ × ℕ × Address} (λ p. is_within (up_to 0) p.2.offset) (three register_in register_in address_in os)

a_target-fault : (os : List (List Token)) → a_target os ≢ Err NoMemory
a_target-fault os = judged-fault {X = Target} (fits_target) (one target_in os)

register_and_target-fault : (os : List (List Token)) → register_and_target os ≢ Err NoMemory
register_and_target-fault os = judged-fault {X = ℕ × Target} (λ p. fits_target p.1) (two register_in target_in os)

registers_and_target-fault : (os : List (List Token)) → registers_and_target os ≢ Err NoMemory
registers_and_target-fault os = judged-fault {X = ℕ × ℕ × Target} (λ p. fits_target p.2) (three register_in register_in target_in os)

targets-fault : (os : List (List Token)) → targets os ≢ Err NoMemory
targets-fault os = judged-fault {X = List Target} (list_all fits_target) (one_or_more target_in os)

numbers-fault : (range : Range) (os : List (List Token)) → numbers range os ≢ Err NoMemory
numbers-fault range os = judged-fault {X = List ℤ} (list_all (is_within range)) (one_or_more number_in os)

a_text-fault : (os : List (List Token)) → a_text os ≢ Err NoMemory
a_text-fault os = judged-fault {X = List ℕ} (λ _. true) (one text_in os)

reading-fault : (form : Form) (os : List (List Token)) → reading form os ≢ Err NoMemory
reading-fault (Arithmetic op) os = if_ok-fault _ (three_registers os) (three_registers-fault os)
reading-fault (WithImmediate op) os = if_ok-fault _ (registers_and_number (signed 12) os) (registers_and_number-fault (signed 12) os)
reading-fault (ShiftByAmount op) os = if_ok-fault _ (registers_and_number (unsigned 5) os) (registers_and_number-fault (unsigned 5) os)
reading-fault (LoadFrom op) os = if_ok-fault _ (register_and_address os) (register_and_address-fault os)
reading-fault (StoreTo op) os = if_ok-fault _ (register_and_address os) (register_and_address-fault os)
reading-fault (BranchTo op) os = if_ok-fault _ (registers_and_target os) (registers_and_target-fault os)
reading-fault (UpperImmediate op) os = if_ok-fault _ (register_and_number (unsigned 20) os) (register_and_number-fault (unsigned 20) os)
reading-fault JumpAndLink os = if_ok-fault _ (register_and_target os) (register_and_target-fault os)
reading-fault JumpAndLinkRegister os = if_ok-fault _ (register_and_address os) (register_and_address-fault os)
reading-fault (NoOperands op) os = if_ok-fault _ (no_operands os) (no_operands-fault os)
reading-fault WordData os = if_ok-fault _ (targets os) (targets-fault os)
reading-fault HalfData os = if_ok-fault _ (numbers half_range os) (numbers-fault half_range os)
reading-fault ByteData os = if_ok-fault _ (numbers byte_range os) (numbers-fault byte_range os)
reading-fault TextData os = if_ok-fault _ (a_text os) (a_text-fault os)
reading-fault ZeroData os = if_ok-fault _ (a_number (up_to most_space) os) (a_number-fault (up_to most_space) os)
reading-fault AlignData os = if_ok-fault _ (a_number (up_to most_align) os) (a_number-fault (up_to most_align) os)
reading-fault EntryPoint os = if_ok-fault _ (a_target os) (a_target-fault os)
reading-fault Nop os = if_ok-fault _ (no_operands os) (no_operands-fault os)
reading-fault Move os = if_ok-fault _ (two_registers os) (two_registers-fault os)
reading-fault LoadImmediate os = if_ok-fault _ (register_and_number word_range os) (register_and_number-fault word_range os)
reading-fault LoadAddress os = if_ok-fault _ (register_and_target os) (register_and_target-fault os)
reading-fault Jump os = if_ok-fault _ (a_target os) (a_target-fault os)
reading-fault JumpRegister os = if_ok-fault _ (a_register os) (a_register-fault os)
reading-fault Return os = if_ok-fault _ (no_operands os) (no_operands-fault os)
reading-fault Call os = if_ok-fault _ (a_target os) (a_target-fault os)
reading-fault BranchIfZero os = if_ok-fault _ (register_and_target os) (register_and_target-fault os)
reading-fault BranchIfNotZero os = if_ok-fault _ (register_and_target os) (register_and_target-fault os)
reading-fault (Float form) os = if_ok-fault _ (float_operation form os) (float_operation-fault form os)
reading-fault (LoadReserved order) os = if_ok-fault _ (register_and_base os) (register_and_base-fault os)
reading-fault (StoreConditional order) os = if_ok-fault _ (registers_and_base os) (registers_and_base-fault os)
reading-fault (AtomicMemory op order) os = if_ok-fault _ (registers_and_base os) (registers_and_base-fault os)

form-fault : (o : Option Form) (os : List (List Token)) → statement_of_form o os ≢ Err NoMemory
form-fault None os h = cc
form-fault (Some form) os h = reading-fault form os h

statement_in-fault : (extensions : Extensions) (ts : List Token) → statement_in extensions ts ≢ Err NoMemory
statement_in-fault extensions [] h = cc
statement_in-fault extensions (name m ∷ ts) h =
    if_ok-fault {Y = Option Statement} Some (statement_of_form (form_named extensions m) (operands_in ts))
    (form-fault (form_named extensions m) (operands_in ts)) h
statement_in-fault extensions _ h = cc

line_with-fault : (extensions : Extensions) (o : Option (List Token)) → line_with extensions o ≢ Err NoMemory
line_with-fault extensions None h = cc
line_with-fault extensions (Some ts) h =
    if_ok-fault (λ s. record { labels = labels_in ts; statement = s }) (statement_in extensions (behind_labels ts))
    (statement_in-fault extensions (behind_labels ts)) h

pub never_memory : (extensions : Extensions) (line : List ℕ) → line_of extensions line ≢ Err NoMemory
unfolding line_of
never_memory extensions line h = line_with-fault extensions (tokens_of line) h
