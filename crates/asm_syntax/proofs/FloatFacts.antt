-- What is read of the operands of floating point fits, and so does the instruction that they make; no fault is want of memory.
use Rattle.std.proofs.Common.{◌≡◌, ◌≢◌, ℕ, true, List, [], ◌∷◌, length, ℤ, pos, nat_abs}
use Rattle.std.proofs.Common.{Option, Some, None, Result, Ok, Err, refl, sym, subst, arith}
use Rattle.std.proofs.lemmas.Int.{ints}
use Rattle.rv_tables.specs.Operands.{IsRegister, IsImmediate}
use Rattle.rv_float_tables.specs.declared.instr.FloatInstr.{FloatInstr}
use Rattle.rv_float_tables.specs.Operands.{IsEncodable}
use Rattle.rv_float_tables.proofs.NameTables.{IsRegister-float_register_number}
use Rattle.asm_syntax.specs.declared.error.LineError.{LineError}
use Rattle.asm_syntax.specs.declared.error.LineError.TheVariants.{NoMemory}
use Rattle.asm_syntax.specs.declared.float_form.FloatForm.{FloatForm}
use Rattle.asm_syntax.specs.declared.float_form.RowForm.{RowForm}
use Rattle.asm_syntax.specs.declared.float_form.RowForm.TheVariants as row
use Rattle.asm_syntax.specs.declared.float_operands.FloatOperands.{FloatOperands}
use Rattle.asm_syntax.specs.declared.float_operands.Kind.{Kind}
use Rattle.asm_syntax.specs.declared.float_operands.Kind.TheVariants.{IntegerRd, IntegerRs1, Rd, Rs1, Rs2, Rs3}
use Rattle.asm_syntax.specs.declared.float_operands.Kind.TheVariants.{BothSources, Csr, Immediate, Address as AddressKind, Rounding}
use Rattle.asm_syntax.specs.Faults.{if_ok, judged}
use Rattle.asm_syntax.specs.FloatForms.{kinds_of, left_out, row_instruction, row_of}
use Rattle.asm_syntax.specs.FloatOperands.{float_register_in, csr_in, rounding_in, wanted, read_one}
use Rattle.asm_syntax.specs.FloatOperands.{then_read, read_all, read_kinds, float_operation}
use Rattle.asm_syntax.specs.Operands.{Address, register_in, number_in, address_in}
use Rattle.asm_syntax.specs.Ranges.{signed, unsigned, is_within}
use Rattle.asm_syntax.specs.Tokens.{Token, name}
use Rattle.asm_syntax.proofs.InRange.{is_within-true, judged-ok}
use Rattle.asm_syntax.proofs.OperandFacts.{no_ok, no_some, if_ok-ok, register_in-some, address_in-some}
use Rattle.asm_syntax.proofs.OperandFacts.{immediate, magnitude, if_ok-fault, judged-fault}

-- each operand fits its field
record Fits (o : FloatOperands) : Type 0 where
  rd : IsRegister o.rd
  rs1 : IsRegister o.rs1
  rs2 : IsRegister o.rs2
  rs3 : IsRegister o.rs3
  imm : IsImmediate o.imm

left_out-fits : (form : FloatForm) → Fits (left_out form)
left_out-fits form = record {
  rd = omega arith;
  rs1 = omega arith;
  rs2 = omega arith;
  rs3 = omega arith;
  imm = immediate (pos 0) (omega (arith, ints), omega (arith, ints));
}

-- what is made of an operand that is right fits
made : {X : Type 0} (P : X → Type 0) (make : X → FloatOperands) (r : Result X LineError) (o : FloatOperands) → ((x : X) → r ≡ Ok x → P x)
    → ((x : X) → P x → Fits (make x)) → if_ok make r ≡ Ok o → Fits o
made P make r o are then h = let parts = if_ok-ok make r o h in subst Fits parts.2 (then parts.0 (are parts.0 parts.1))

float_register_in-some : (ts : List Token) (n : ℕ) → float_register_in ts ≡ Some n → IsRegister n
float_register_in-some (name r ∷ []) n h = IsRegister-float_register_number r (Some n) (sym h)
float_register_in-some _ n h = absurd (no_some h)

an_integer_register : (ts : List Token) (n : ℕ) → wanted (register_in ts) ≡ Ok n → IsRegister n
an_integer_register ts n h = register_in-some ts n (judged-ok (λ _. true) (register_in ts) n h).0

a_float_register : (ts : List Token) (n : ℕ) → wanted (float_register_in ts) ≡ Ok n → IsRegister n
a_float_register ts n h = float_register_in-some ts n (judged-ok (λ _. true) (float_register_in ts) n h).0

an_immediate : (ts : List Token) (n : ℤ) → judged (is_within (unsigned 5)) (number_in ts) ≡ Ok n → IsRegister (nat_abs n)
an_immediate ts n h =
    let within = is_within-true (unsigned 5) n (judged-ok (is_within (unsigned 5)) (number_in ts) n h).1 in
    omega (arith, magnitude 31 n within)

an_address : (ts : List Token) (a : Address) → judged (λ a. is_within (signed 12) a.offset) (address_in ts) ≡ Ok a
    → IsRegister a.base × IsImmediate a.offset
an_address ts a h =
    let found = judged-ok {X = Address} (λ a. is_within (signed 12) a.offset) (address_in ts) a h in
    (address_in-some ts a found.0, immediate a.offset (is_within-true (signed 12) a.offset found.1))

read_one-fits : (kind : Kind) (ts : List Token) (o read : FloatOperands) → Fits o → read_one kind ts o ≡ Ok read → Fits read
read_one-fits IntegerRd ts o read fits h =
    made IsRegister _ (wanted (register_in ts)) read (an_integer_register ts)
    (λ x p. record { rd = p; rs1 = fits.rs1; rs2 = fits.rs2; rs3 = fits.rs3; imm = fits.imm }) h
read_one-fits IntegerRs1 ts o read fits h =
    made IsRegister _ (wanted (register_in ts)) read (an_integer_register ts)
    (λ x p. record { rd = fits.rd; rs1 = p; rs2 = fits.rs2; rs3 = fits.rs3; imm = fits.imm }) h
read_one-fits Rd ts o read fits h =
    made IsRegister _ (wanted (float_register_in ts)) read (a_float_register ts)
    (λ x p. record { rd = p; rs1 = fits.rs1; rs2 = fits.rs2; rs3 = fits.rs3; imm = fits.imm }) h
read_one-fits Rs1 ts o read fits h =
    made IsRegister _ (wanted (float_register_in ts)) read (a_float_register ts)
    (λ x p. record { rd = fits.rd; rs1 = p; rs2 = fits.rs2; rs3 = fits.rs3; imm = fits.imm }) h
read_one-fits Rs2 ts o read fits h =
    made IsRegister _ (wanted (float_register_in ts)) read (a_float_register ts)
    (λ x p. record { rd = fits.rd; rs1 = fits.rs1; rs2 = p; rs3 = fits.rs3; imm = fits.imm }) h
read_one-fits Rs3 ts o read fits h =
    made IsRegister _ (wanted (float_register_in ts)) read (a_float_register ts)
    (λ x p. record { rd = fits.rd; rs1 = fits.rs1; rs2 = fits.rs2; rs3 = p; imm = fits.imm }) h
read_one-fits BothSources ts o read fits h =
    made IsRegister _ (wanted (float_register_in ts)) read (a_float_register ts)
    (λ x p. record { rd = fits.rd; rs1 = p; rs2 = p; rs3 = fits.rs3; imm = fits.imm }) h
read_one-fits Csr ts o read fits h =
    made (λ _. Unit {0}) _ (wanted (csr_in ts)) read (λ x e. tt)
    (λ x p. record { rd = fits.rd; rs1 = fits.rs1; rs2 = fits.rs2; rs3 = fits.rs3; imm = fits.imm }) h
read_one-fits Immediate ts o read fits h =
    made (λ n. IsRegister (nat_abs n)) _ (judged (is_within (unsigned 5)) (number_in ts)) read (an_immediate ts)
    (λ x p. record { rd = fits.rd; rs1 = p; rs2 = fits.rs2; rs3 = fits.rs3; imm = fits.imm }) h
read_one-fits AddressKind ts o read fits h =
    made (λ a. IsRegister a.base × IsImmediate a.offset) _ (judged (λ a. is_within (signed 12) a.offset) (address_in ts)) read
    (an_address ts) (λ x p. record { rd = fits.rd; rs1 = p.0; rs2 = fits.rs2; rs3 = fits.rs3; imm = p.1 }) h
read_one-fits Rounding ts o read fits h =
    made (λ _. Unit {0}) _ (wanted (rounding_in ts)) read (λ x e. tt)
    (λ x p. record { rd = fits.rd; rs1 = fits.rs1; rs2 = fits.rs2; rs3 = fits.rs3; imm = fits.imm }) h

then_read-ok : (r : Result FloatOperands LineError) (next : FloatOperands → Result FloatOperands LineError) (read : FloatOperands)
    → then_read r next ≡ Ok read → (o : FloatOperands) × (r ≡ Ok o) × (next o ≡ Ok read)
then_read-ok (Err e) next read h = absurd (no_ok h)
then_read-ok (Ok o) next read h = (o, refl, h)

nothing_more : (o read : FloatOperands) → Fits o → ◌≡◌ {A = Result FloatOperands LineError} (Ok o) (Ok read) → Fits read
nothing_more o read fits h = let same : o ≡ read = cc in subst Fits same fits

read_all-fits : (kinds : List Kind) (os : List (List Token)) (o read : FloatOperands) → Fits o → read_all kinds os o ≡ Ok read → Fits read
read_all-fits [] os o read fits h = nothing_more o read fits h
read_all-fits (kind ∷ kinds) [] o read fits h = nothing_more o read fits h
read_all-fits (kind ∷ kinds) (ts ∷ os) o read fits h =
    let first = then_read-ok (read_one kind ts o) (read_all kinds os) read h in
    read_all-fits kinds os first.0 read (read_one-fits kind ts o first.0 fits first.1) first.2

read_kinds-fits : (form : FloatForm) (found : Option (List Kind)) (os : List (List Token)) (read : FloatOperands)
    → read_kinds form found os ≡ Ok read → Fits read
read_kinds-fits form None os read h = absurd (no_ok h)
read_kinds-fits form (Some kinds) os read h = read_all-fits kinds os (left_out form) read (left_out-fits form) h

instruction-fits : (r : RowForm) (o : FloatOperands) → Fits o → IsEncodable (row_instruction r o)
instruction-fits (row.Load format) o h = (h.rd, h.rs1, h.imm)
instruction-fits (row.Store format) o h = (h.rs1, h.rs2, h.imm)
instruction-fits (row.Fused op format) o h = (h.rd, h.rs1, h.rs2, h.rs3)
instruction-fits (row.Arithmetic op format) o h = (h.rd, h.rs1, h.rs2)
instruction-fits (row.SquareRoot format) o h = (h.rd, h.rs1)
instruction-fits (row.Sign op format) o h = (h.rd, h.rs1, h.rs2)
instruction-fits (row.MinMax op format) o h = (h.rd, h.rs1, h.rs2)
instruction-fits (row.Compare op format) o h = (h.rd, h.rs1, h.rs2)
instruction-fits (row.Class format) o h = (h.rd, h.rs1)
instruction-fits (row.ToWord kind format) o h = (h.rd, h.rs1)
instruction-fits (row.FromWord kind format) o h = (h.rd, h.rs1)
instruction-fits (row.ToFormat format) o h = (h.rd, h.rs1)
instruction-fits row.MoveToInteger o h = (h.rd, h.rs1)
instruction-fits row.MoveFromInteger o h = (h.rd, h.rs1)
instruction-fits (row.Csr op) o h = (h.rd, h.rs1)
instruction-fits (row.CsrImmediate op) o h = (h.rd, h.rs1)

pub float_operation-ok : (form : FloatForm) (os : List (List Token)) (i : FloatInstr) → float_operation form os ≡ Ok i → IsEncodable i
float_operation-ok form os i h =
    let parts = if_ok-ok (row_instruction (row_of form)) (read_kinds form (kinds_of form (length os)) os) i h in
    subst IsEncodable parts.2 (instruction-fits (row_of form) parts.0 (read_kinds-fits form (kinds_of form (length os)) os parts.0 parts.1))

-- no fault is want of memory
wanted-fault : {X : Type 0} (o : Option X) → wanted o ≢ Err NoMemory
wanted-fault {X} o = judged-fault {X = X} (λ _. true) o

read_one-fault : (kind : Kind) (ts : List Token) (o : FloatOperands) → read_one kind ts o ≢ Err NoMemory
read_one-fault IntegerRd ts o = if_ok-fault _ (wanted (register_in ts)) (wanted-fault (register_in ts))
read_one-fault IntegerRs1 ts o = if_ok-fault _ (wanted (register_in ts)) (wanted-fault (register_in ts))
read_one-fault Rd ts o = if_ok-fault _ (wanted (float_register_in ts)) (wanted-fault (float_register_in ts))
read_one-fault Rs1 ts o = if_ok-fault _ (wanted (float_register_in ts)) (wanted-fault (float_register_in ts))
read_one-fault Rs2 ts o = if_ok-fault _ (wanted (float_register_in ts)) (wanted-fault (float_register_in ts))
read_one-fault Rs3 ts o = if_ok-fault _ (wanted (float_register_in ts)) (wanted-fault (float_register_in ts))
read_one-fault BothSources ts o = if_ok-fault _ (wanted (float_register_in ts)) (wanted-fault (float_register_in ts))
read_one-fault Csr ts o = if_ok-fault _ (wanted (csr_in ts)) (wanted-fault (csr_in ts))
read_one-fault Immediate ts o =
    if_ok-fault _ (judged (is_within (unsigned 5)) (number_in ts)) (judged-fault (is_within (unsigned 5)) (number_in ts))
read_one-fault AddressKind ts o =
    if_ok-fault _ (judged (λ a. is_within (signed 12) a.offset) (address_in ts))
    (judged-fault {X = Address} (λ a. is_within (signed 12) a.offset) (address_in ts))
read_one-fault Rounding ts o = if_ok-fault _ (wanted (rounding_in ts)) (wanted-fault (rounding_in ts))

then_read-fault : (r : Result FloatOperands LineError) (next : FloatOperands → Result FloatOperands LineError) → r ≢ Err NoMemory
    → ((o : FloatOperands) → next o ≢ Err NoMemory) → then_read r next ≢ Err NoMemory
then_read-fault (Err e) next first more h = first h
then_read-fault (Ok o) next first more h = more o h

read_all-fault : (kinds : List Kind) (os : List (List Token)) (o : FloatOperands) → read_all kinds os o ≢ Err NoMemory
read_all-fault [] os o h = cc
read_all-fault (kind ∷ kinds) [] o h = cc
read_all-fault (kind ∷ kinds) (ts ∷ os) o h =
    then_read-fault (read_one kind ts o) (read_all kinds os) (read_one-fault kind ts o) (read_all-fault kinds os) h

read_kinds-fault : (form : FloatForm) (found : Option (List Kind)) (os : List (List Token)) → read_kinds form found os ≢ Err NoMemory
read_kinds-fault form None os h = cc
read_kinds-fault form (Some kinds) os h = read_all-fault kinds os (left_out form) h

pub float_operation-fault : (form : FloatForm) (os : List (List Token)) → float_operation form os ≢ Err NoMemory
float_operation-fault form os =
    if_ok-fault {Y = FloatInstr} (row_instruction (row_of form)) (read_kinds form (kinds_of form (length os)) os)
    (read_kinds-fault form (kinds_of form (length os)) os)
