-- The statements of the language (own language): each has one rule, of its mnemonic, its operands with their ranges, and
-- what it says. Names and pseudo-instructions are those of the RISC-V Assembly Programmer's Handbook (RISC-V Unprivileged
-- ISA 20191213, chapter 25), but `li`, `la` and `call` have meanings of this language's own.
use Rattle.std.specs.Prelude.{ℕ, if◌then◌else◌, pos, nat_abs, List, [], ◌∷◌, ◌++◌, map, codes, find, Option, None, Result}
use Rattle.std.specs.Option.{option_map, option_or}
use Rattle.std.specs.Str.{bytes_eq}
use Rattle.rv_tables.specs.declared.instr.Instr.{Instr}
use Rattle.rv_tables.specs.declared.instr.Instr.TheVariants.{R, I, Shift, Load, Store, Branch, Upper, Jal, Jalr, Plain}
use Rattle.rv_tables.specs.declared.instr.IOp.TheVariants.{Addi}
use Rattle.rv_tables.specs.declared.instr.BranchOp.TheVariants.{Beq, Bne}
use Rattle.rv_tables.specs.Mnemonics.{r_mnemonic, i_mnemonic, shift_mnemonic, load_mnemonic, store_mnemonic, branch_mnemonic}
use Rattle.rv_tables.specs.Mnemonics.{upper_mnemonic, plain_mnemonic, mnemonic_of}
use Rattle.rv_tables.specs.Rows.{encodings}
use Rattle.rv_atomics.specs.declared.extensions.Extensions.{Extensions}
use Rattle.rv_atomics.specs.declared.instr.AtomicInstr.{AtomicInstr}
use Rattle.rv_atomics.specs.declared.instr.AtomicInstr.TheVariants as atomic
use Rattle.rv_atomics.specs.Mnemonics.{atomic_mnemonic_of, atomic_named}
use Rattle.asm_syntax.specs.declared.form.Form.{Form}
use Rattle.asm_syntax.specs.declared.form.Form.TheVariants.{Arithmetic, WithImmediate, ShiftByAmount, LoadFrom, StoreTo, BranchTo}
use Rattle.asm_syntax.specs.declared.form.Form.TheVariants.{UpperImmediate, JumpAndLink, JumpAndLinkRegister, NoOperands, WordData}
use Rattle.asm_syntax.specs.declared.form.Form.TheVariants.{HalfData, ByteData, TextData, ZeroData, AlignData, EntryPoint, Nop, Move}
use Rattle.asm_syntax.specs.declared.form.Form.TheVariants.{LoadImmediate, LoadAddress, Jump, JumpRegister, Return, Call, BranchIfZero}
use Rattle.asm_syntax.specs.declared.form.Form.TheVariants.{BranchIfNotZero, Float, LoadReserved, StoreConditional, AtomicMemory}
use Rattle.asm_syntax.specs.declared.error.LineError.{LineError}
use Rattle.asm_syntax.specs.Faults.{if_ok}
use Rattle.asm_syntax.specs.FloatForms.{float_form_named, float_mnemonic}
use Rattle.asm_syntax.specs.FloatOperands.{float_operation}
use Rattle.asm_syntax.specs.Ranges.{up_to, signed, unsigned}
use Rattle.asm_syntax.specs.Shapes.{no_operands, a_register, two_registers, three_registers, a_number, register_and_number}
use Rattle.asm_syntax.specs.Shapes.{registers_and_number, register_and_address, a_target, register_and_target, registers_and_target}
use Rattle.asm_syntax.specs.Shapes.{register_and_base, registers_and_base, targets, numbers, a_text}
use Rattle.asm_syntax.specs.Tokens.{Token}
use Rattle.asm_syntax.specs.Statements.{Statement, instruction, float_instruction, branch, jump_and_link, load_immediate, load_address}
use Rattle.asm_syntax.specs.Statements.{words, halves, bytes, ascii, space, align, entry, word_range, half_range, byte_range, most_space}
use Rattle.asm_syntax.specs.Statements.{most_align, atomic_instruction}

-- a rule of the language: a mnemonic, and what the operands behind it say, or their fault
pub record Rule : Type 0 where
  pub mnemonic : List ℕ
  pub reading : List (List Token) → Result Statement LineError

abbrev pub rule : {X : Type 0} → List ℕ → (List (List Token) → Result X LineError) → (X → Statement) → Rule
rule mnemonic operands says = record { mnemonic = mnemonic; reading = λ os. if_ok says (operands os) }

-- the rule of each statement: those of the rows, those of data, those of the pseudo-instructions, those of floating point, and those of
-- the atomic instructions, which have the operands that the examples of sections 8.2 to 8.4 have
abbrev pub rule_of : Form → Rule
rule_of (Arithmetic op) =
    rule (r_mnemonic op) three_registers (λ (rd, rs1, rs2). instruction (R op rd rs1 rs2))
rule_of (WithImmediate op) =
    rule (i_mnemonic op) (registers_and_number (signed 12)) (λ (rd, rs1, n). instruction (I op rd rs1 n))
rule_of (ShiftByAmount op) =
    rule (shift_mnemonic op) (registers_and_number (unsigned 5))
    (λ (rd, rs1, n). instruction (Shift op rd rs1 (nat_abs n)))
rule_of (LoadFrom op) =
    rule (load_mnemonic op) register_and_address (λ (rd, a). instruction (Load op rd a.base a.offset))
rule_of (StoreTo op) =
    rule (store_mnemonic op) register_and_address (λ (rs2, a). instruction (Store op a.base rs2 a.offset))
rule_of (BranchTo op) =
    rule (branch_mnemonic op) registers_and_target (λ (rs1, rs2, t). branch op rs1 rs2 t)
rule_of (UpperImmediate op) =
    rule (upper_mnemonic op) (register_and_number (unsigned 20)) (λ (rd, n). instruction (Upper op rd (nat_abs n)))
rule_of JumpAndLink =
    rule (mnemonic_of (Jal 0 (pos 0))) register_and_target (λ (rd, t). jump_and_link rd t)
rule_of JumpAndLinkRegister =
    rule (mnemonic_of (Jalr 0 0 (pos 0))) register_and_address (λ (rd, a). instruction (Jalr rd a.base a.offset))
rule_of (NoOperands op) = rule (plain_mnemonic op) no_operands (λ _. instruction (Plain op))
rule_of WordData = rule (codes ".word") targets words
rule_of HalfData = rule (codes ".half") (numbers half_range) halves
rule_of ByteData = rule (codes ".byte") (numbers byte_range) bytes
rule_of TextData = rule (codes ".ascii") a_text ascii
rule_of ZeroData = rule (codes ".space") (a_number (up_to most_space)) (λ n. space (nat_abs n))
rule_of AlignData = rule (codes ".align") (a_number (up_to most_align)) (λ n. align (nat_abs n))
rule_of EntryPoint = rule (codes ".entry") a_target entry
rule_of Nop = rule (codes "nop") no_operands (λ _. instruction (I Addi 0 0 (pos 0)))
rule_of Move = rule (codes "mv") two_registers (λ (rd, rs). instruction (I Addi rd rs (pos 0)))
rule_of LoadImmediate = rule (codes "li") (register_and_number word_range) (λ (rd, n). load_immediate rd n)
rule_of LoadAddress = rule (codes "la") register_and_target (λ (rd, t). load_address rd t)
rule_of Jump = rule (codes "j") a_target (jump_and_link 0)
rule_of JumpRegister = rule (codes "jr") a_register (λ rs. instruction (Jalr 0 rs (pos 0)))
rule_of Return = rule (codes "ret") no_operands (λ _. instruction (Jalr 0 1 (pos 0)))
rule_of Call = rule (codes "call") a_target (jump_and_link 1)
rule_of BranchIfZero = rule (codes "beqz") register_and_target (λ (rs, t). branch Beq rs 0 t)
rule_of BranchIfNotZero = rule (codes "bnez") register_and_target (λ (rs, t). branch Bne rs 0 t)
rule_of (Float form) = rule (float_mnemonic form) (float_operation form) float_instruction
rule_of (LoadReserved order) =
    rule (atomic_mnemonic_of (atomic.LoadReserved order 0 0)) register_and_base
    (λ (rd, a). atomic_instruction (atomic.LoadReserved order rd a.base))
rule_of (StoreConditional order) =
    rule (atomic_mnemonic_of (atomic.StoreConditional order 0 0 0)) registers_and_base
    (λ (rd, rs2, a). atomic_instruction (atomic.StoreConditional order rd a.base rs2))
rule_of (AtomicMemory op order) =
    rule (atomic_mnemonic_of (atomic.Amo op order 0 0 0)) registers_and_base
    (λ (rd, rs2, a). atomic_instruction (atomic.Amo op order rd a.base rs2))

-- what operands of a statement say, or their fault
abbrev pub reading : Form → List (List Token) → Result Statement LineError
reading form = (rule_of form).reading

-- the statement of an instruction
abbrev pub form_of : Instr → Form
form_of (R op rd rs1 rs2) = Arithmetic op
form_of (I op rd rs1 imm) = WithImmediate op
form_of (Shift op rd rs1 shamt) = ShiftByAmount op
form_of (Load op rd rs1 imm) = LoadFrom op
form_of (Store op rs1 rs2 imm) = StoreTo op
form_of (Branch op rs1 rs2 imm) = BranchTo op
form_of (Upper op rd imm) = UpperImmediate op
form_of (Jal rd imm) = JumpAndLink
form_of (Jalr rd rs1 imm) = JumpAndLinkRegister
form_of (Plain op) = NoOperands op

abbrev pub atomic_form_of : AtomicInstr → Form
atomic_form_of (atomic.LoadReserved order rd rs1) = LoadReserved order
atomic_form_of (atomic.StoreConditional order rd rs1 rs2) = StoreConditional order
atomic_form_of (atomic.Amo op order rd rs1 rs2) = AtomicMemory op order

-- the statements of data and the pseudo-instructions
unfoldable pub own_forms : List Form
own_forms =
    WordData ∷ HalfData ∷ ByteData ∷ TextData ∷ ZeroData ∷ AlignData ∷ EntryPoint
    ∷ Nop ∷ Move ∷ LoadImmediate ∷ LoadAddress ∷ Jump ∷ JumpRegister ∷ Return ∷ Call ∷ BranchIfZero ∷ BranchIfNotZero
    ∷ []

-- the statements of the language, without those of extensions: one for each row of the instruction set, and its own
unfoldable pub forms : List Form
forms = map (λ e. form_of (e.read 0)) encodings ++ own_forms

-- the one of these with a mnemonic, and the one among the language's own
unfoldable pub integer_form_named : List ℕ → Option Form
integer_form_named mnemonic = find (λ form. bytes_eq (rule_of form).mnemonic mnemonic) forms

unfoldable pub own_form_named : List ℕ → Option Form
own_form_named mnemonic = find (λ form. bytes_eq (rule_of form).mnemonic mnemonic) own_forms

-- the statement of an extension with a mnemonic, where the language has that extension
abbrev pub extension_form_named : Extensions → List ℕ → Option Form
extension_form_named extensions mnemonic =
    option_or (if extensions.float then option_map Float (float_form_named mnemonic) else None)
    (if extensions.atomic then option_map atomic_form_of (atomic_named mnemonic) else None)

-- the statement with a mnemonic, in the language with the statements of some extensions. None of these has the mnemonic of another one
abbrev pub form_named : Extensions → List ℕ → Option Form
form_named extensions mnemonic = option_or (integer_form_named mnemonic) (extension_form_named extensions mnemonic)
