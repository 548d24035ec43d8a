-- What a line says, whatever memory holds it.
use Rattle.std.specs.Prelude.{ℕ, ◌≤◌, ◌<◌, ◌^◌, ℤ, List, length, Option}
use Rattle.std.specs.List.{All}
use Rattle.rv_tables.specs.declared.instr.Instr.{Instr}
use Rattle.rv_tables.specs.declared.instr.BranchOp.{BranchOp}
use Rattle.rv_tables.specs.Operands.{IsRegister, IsEncodable}
use Rattle.rv_float_tables.specs.declared.instr.FloatInstr.{FloatInstr}
use Rattle.rv_float_tables.specs.Operands.{IsEncodable as IsFloatEncodable}
use Rattle.rv_atomics.specs.declared.instr.AtomicInstr.{AtomicInstr}
use Rattle.rv_atomics.specs.Operands.{IsEncodable as IsAtomicEncodable}
use Rattle.asm_syntax.specs.Operands.{Target, IsTarget}
use Rattle.asm_syntax.specs.Ranges.{Range, signed_or_unsigned, IsWithin}

-- what a statement says. Pseudo-instructions that always stand for one instruction are that instruction
pub data Statement : Type 0 where
  -- an instruction whose word depends on no address
  instruction : Instr → Statement
  -- one of floating point
  float_instruction : FloatInstr → Statement
  -- one of extension A
  atomic_instruction : AtomicInstr → Statement
  -- its row, rs1, rs2 and where it goes to
  branch : BranchOp → ℕ → ℕ → Target → Statement
  -- rd and where it goes to
  jump_and_link : ℕ → Target → Statement
  -- `li`: rd and a number
  load_immediate : ℕ → ℤ → Statement
  -- `la`: rd and an address
  load_address : ℕ → Target → Statement
  -- words in memory
  words : List Target → Statement
  -- half-words in memory
  halves : List ℤ → Statement
  -- bytes in memory
  bytes : List ℤ → Statement
  -- the bytes of a string
  ascii : List ℕ → Statement
  -- that many zeros
  space : ℕ → Statement
  -- zeros to a multiple of 2 to that power
  align : ℕ → Statement
  -- where the program starts
  entry : Target → Statement

-- the labels of a line, in order, and its statement
pub record Line : Type 0 where
  pub labels : List (List ℕ)
  pub statement : Option Statement

-- what a word, a half-word and a byte hold as a signed or as an unsigned number
abbrev pub word_range : Range
word_range = signed_or_unsigned 32

abbrev pub half_range : Range
half_range = signed_or_unsigned 16

abbrev pub byte_range : Range
byte_range = signed_or_unsigned 8

-- the most zeros of a `.space`, and the greatest power of an `.align` (own limits)
abbrev pub most_space : ℕ
most_space = 2 ^ 24

abbrev pub most_align : ℕ
most_align = 12

-- each register has a number below 32, an instruction's operands fit, and each other number is in its range
abbrev pub IsInRange : Statement → Type 0
IsInRange (instruction i) = IsEncodable i
IsInRange (float_instruction i) = IsFloatEncodable i
IsInRange (atomic_instruction i) = IsAtomicEncodable i
IsInRange (branch op rs1 rs2 target) = IsRegister rs1 × IsRegister rs2 × IsTarget target
IsInRange (jump_and_link rd target) = IsRegister rd × IsTarget target
IsInRange (load_immediate rd n) = IsRegister rd × IsWithin word_range n
IsInRange (load_address rd target) = IsRegister rd × IsTarget target
IsInRange (words targets) = (0 < length targets) × All IsTarget targets
IsInRange (halves ns) = (0 < length ns) × All (IsWithin half_range) ns
IsInRange (bytes ns) = (0 < length ns) × All (IsWithin byte_range) ns
IsInRange (ascii bs) = Unit {0}
IsInRange (space n) = n ≤ most_space
IsInRange (align n) = n ≤ most_align
IsInRange (entry target) = IsTarget target
