-- The code of an instruction: 16 or 32 bits, which its low bits tell, in memory with the low byte first (RISC-V Unprivileged ISA
-- 20191213, section 1.5 "Base Instruction-Length Encoding"). Longer codes, which the manual leaves to other extensions, are words
-- of no instruction.
use Rattle.std.specs.Prelude.{ℕ, ◌+◌, ◌%◌, ◌^◌, ◌==◌, nat_le, List, length, if◌then◌else◌, Option, Some, None}
use Rattle.std.specs.Int.{w16, w32, from_le_bytes}
use Rattle.std.specs.List.{slice_range}
use Rattle.rv_tables.specs.declared.code.Code.{Code}
use Rattle.rv_tables.specs.declared.code.Code.TheVariants.{Half, Word}
use Rattle.rv_tables.specs.declared.instr.Instr.{Instr}
use Rattle.rv_tables.specs.Halfwords.{quadrant}
use Rattle.rv_tables.specs.Rows.{instruction_of}
use Rattle.rv_tables.specs.Compressed.{expansion_of}

-- the bytes of the code that begins with these bits: four where the low two are 11, else two
abbrev pub code_length : ℕ → ℕ
code_length bits = if quadrant bits == 3 then 4 else 2

-- the code with which a word begins: the whole word, or its lower half
abbrev pub code_in : ℕ → Code
code_in word = if code_length word == 4 then Word word else Half (word % 2 ^ 16)

-- the bytes of a code
abbrev pub length_of : Code → ℕ
length_of (Half half) = 2
length_of (Word word) = 4

-- the instruction of a code, or none
abbrev pub decoded : Code → Option Instr
decoded (Half half) = expansion_of half
decoded (Word word) = instruction_of word

-- the half-word and the word among some bytes, from an offset on
abbrev pub half_at : List ℕ → ℕ → ℕ
half_at bytes at = from_le_bytes w16 (slice_range bytes at (at + 2))

abbrev pub word_at : List ℕ → ℕ → ℕ
word_at bytes at = from_le_bytes w32 (slice_range bytes at (at + 4))

-- the code among some bytes from an offset on, or none where they end before it does. Its first two bytes tell how long it is
abbrev pub code_at : List ℕ → ℕ → Option Code
code_at bytes at =
    if nat_le (at + 2) (length bytes) then
    (if code_length (half_at bytes at) == 4 then (if nat_le (at + 4) (length bytes) then Some (Word (word_at bytes at)) else None)
    else Some (Half (half_at bytes at)))
    else None
