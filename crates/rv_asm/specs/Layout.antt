-- The bytes of a statement (RISC-V Unprivileged ISA 20191213, section 1.5 "Base Instruction-Length Encoding" and section
-- 2.6 "Load and Store Instructions": a word is stored with its low byte first; chapter 25 "RISC-V Assembly Programmer's
-- Handbook": `li` and `la`). What `.space`, `.align` and `.entry` do, and that `li` and `la` write just these instructions,
-- are own rules.
use Rattle.std.specs.Prelude.{◌≡◌, ℕ, ◌+◌, ◌-◌, ◌*◌, ◌^◌, ◌<◌, ◌++◌, Bool, if◌then◌else◌, List, [], ◌∷◌, length, map, flat_map, replicate}
use Rattle.std.specs.Prelude.{false, Some, IsSome, IsSomeAnd}
use Rattle.std.specs.Int.{w16, w32, cast_signed, to_le_bytes, next_multiple_of}
use Rattle.std.specs.Option.{option_map_or}
use Rattle.rv_tables.specs.declared.instr.Instr.{Instr}
use Rattle.rv_tables.specs.declared.instr.Instr.TheVariants.{I, Branch, Upper, Jal, Plain}
use Rattle.rv_tables.specs.declared.instr.IOp.TheVariants.{Addi}
use Rattle.rv_tables.specs.declared.instr.UpperOp.TheVariants.{Lui}
use Rattle.rv_tables.specs.declared.instr.PlainOp.TheVariants.{Fence, FenceI}
use Rattle.rv_tables.specs.Fields.{bits, sign_extended}
use Rattle.rv_tables.specs.Rows.{instruction_of}
use Rattle.rv_float_tables.specs.declared.instr.FloatInstr.{FloatInstr}
use Rattle.rv_float_tables.specs.Rows.{float_instruction_of}
use Rattle.rv_atomics.specs.declared.instr.AtomicInstr.{AtomicInstr}
use Rattle.rv_atomics.specs.Rows.{atomic_instruction_of}
use Rattle.asm_syntax.specs.Operands.{Target}
use Rattle.asm_syntax.specs.Statements.{Statement, instruction, float_instruction, branch, jump_and_link, load_immediate, load_address}
use Rattle.asm_syntax.specs.Statements.{words, halves, bytes, ascii, space, align, entry, atomic_instruction}
use Rattle.rv_asm.specs.Symbols.{Symbols}
use Rattle.rv_asm.specs.Targets.{modulo, is_signed, value_of, uses_undefined, offset_to}

-- the word of an instruction, which decodes to it. Each instruction has one, but the fences have many: theirs are
-- `fence iorw,iorw`, and `fence.i` with its unused fields zero
pub record IsWordOf (i : Instr) (w : ℕ) : Type 0 where
  pub fits : w < 2 ^ 32
  pub decodes : instruction_of w ≡ Some i
  pub fence : i ≡ Plain Fence → w ≡ 0x0FF0000F
  pub fence_i : i ≡ Plain FenceI → w ≡ 0x100F

-- the bytes of instructions, one after the other
abbrev pub Spell : List Instr → List ℕ → Type 0
Spell [] private = private ≡ []
Spell (i ∷ rest) private = (w : ℕ) × (more : List ℕ) × IsWordOf i w × Spell rest more × (private ≡ to_le_bytes w32 w ++ more)

-- the bytes of an instruction of floating point: those of the one word that decodes to it
abbrev pub SpellFloat : FloatInstr → List ℕ → Type 0
SpellFloat i private = (w : ℕ) × (w < 2 ^ 32) × (float_instruction_of w ≡ Some i) × (private ≡ to_le_bytes w32 w)

-- the bytes of an instruction of A, likewise
abbrev pub SpellAtomic : AtomicInstr → List ℕ → Type 0
SpellAtomic i private = (w : ℕ) × (w < 2 ^ 32) × (atomic_instruction_of w ≡ Some i) × (private ≡ to_le_bytes w32 w)

-- a word goes into a register by its upper 20 bits, rounded, and its low 12 bits as a signed number
abbrev pub lui_addi : ℕ → ℕ → List Instr
lui_addi rd word = Upper Lui rd (bits (word + 0x800) 31 12) ∷ I Addi rd rd (sign_extended 12 (bits word 11 0)) ∷ []

-- `li` has one instruction where the word as a signed number is an immediate, -2048 to 2047
abbrev pub is_short : ℕ → Bool
is_short word = is_signed 12 (cast_signed w32 word)

-- the instructions of `li`
abbrev pub load_of : ℕ → ℕ → List Instr
load_of rd word = if is_short word then I Addi rd 0 (cast_signed w32 word) ∷ [] else lui_addi rd word

-- how many bytes a statement at an address has: that depends on no label
abbrev pub size_of : Statement → ℕ → ℕ
size_of (instruction i) address = 4
size_of (float_instruction i) address = 4
size_of (atomic_instruction i) address = 4
size_of (branch op rs1 rs2 target) address = 4
size_of (jump_and_link rd target) address = 4
size_of (load_immediate rd n) address = 4 * length (load_of rd (modulo (2 ^ 32) n))
size_of (load_address rd target) address = 8
size_of (words targets) address = 4 * length targets
size_of (halves ns) address = 2 * length ns
size_of (bytes ns) address = length ns
size_of (ascii text) address = length text
size_of (space n) address = n
size_of (align n) address = next_multiple_of address (2 ^ n) - address
size_of (entry target) address = 0

-- the bytes of the word that a target stands for
abbrev pub word_bytes : Symbols → Target → List ℕ
word_bytes symbols target = option_map_or (to_le_bytes w32) (value_of symbols target) []

-- the bytes of a statement at an address, where labels stand for these addresses
abbrev pub HasBytes : Symbols → ℕ → Statement → List ℕ → Type 0
HasBytes symbols address (instruction i) private = Spell (i ∷ []) private
HasBytes symbols address (float_instruction i) private = SpellFloat i private
HasBytes symbols address (atomic_instruction i) private = SpellAtomic i private
HasBytes symbols address (branch op rs1 rs2 target) private =
    IsSomeAnd (value_of symbols target) (λ value. Spell (Branch op rs1 rs2 (offset_to address value) ∷ []) private)
HasBytes symbols address (jump_and_link rd target) private =
    IsSomeAnd (value_of symbols target) (λ value. Spell (Jal rd (offset_to address value) ∷ []) private)
HasBytes symbols address (load_immediate rd n) private = Spell (load_of rd (modulo (2 ^ 32) n)) private
HasBytes symbols address (load_address rd target) private =
    IsSomeAnd (value_of symbols target) (λ value. Spell (lui_addi rd value) private)
HasBytes symbols address (words targets) private =
    (uses_undefined symbols (words targets) ≡ false)
    × (private ≡ flat_map (word_bytes symbols) targets)
HasBytes symbols address (halves ns) private = private ≡ flat_map (λ n. to_le_bytes w16 (modulo (2 ^ 16) n)) ns
HasBytes symbols address (bytes ns) private = private ≡ map (modulo (2 ^ 8)) ns
HasBytes symbols address (ascii text) private = private ≡ text
HasBytes symbols address (space n) private = private ≡ replicate n 0
HasBytes symbols address (align n) private = private ≡ replicate (size_of (align n) address) 0
HasBytes symbols address (entry target) private = IsSome (value_of symbols target) × (private ≡ [])
