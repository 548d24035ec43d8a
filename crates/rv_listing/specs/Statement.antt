-- The assembly statement of a code (RISC-V Unprivileged ISA 20191213, chapter 24 "RV32/64G Instruction Set Listings" and
-- chapter 25 "RISC-V Assembly Programmer's Handbook"): mnemonic and operands in the order in which assemblers take them.
-- Registers have their numbers, and jumps and branches name the address to which they go; the orders of a fence are not
-- written; a compressed instruction is written as what it expands to, with a comment (own choices, as is the spelling without
-- blanks between operands).
use Rattle.std.specs.Prelude.{ℕ, ◌^◌, List, [], ◌∷◌, ◌++◌, codes, ℤ, pos, ◌+ℤ◌, unsigned_abs}
use Rattle.std.specs.Int.{int_rem_euclid}
use Rattle.std.specs.List.{flat_map}
use Rattle.std.specs.Option.{option_map_or}
use Rattle.std.specs.Fmt.{decimal, signed_decimal}
use Rattle.rv_tables.specs.declared.instr.Instr.{Instr}
use Rattle.rv_tables.specs.declared.instr.Instr.TheVariants.{R, I, Shift, Load, Store, Branch, Upper, Jal, Jalr, Plain}
use Rattle.rv_tables.specs.Mnemonics.{mnemonic_of}
use Rattle.rv_tables.specs.declared.code.Code.{Code}
use Rattle.rv_tables.specs.declared.code.Code.TheVariants.{Half, Word}
use Rattle.rv_tables.specs.Compressed.{expansion_of}
use Rattle.rv_tables.specs.Rows.{instruction_of}
use Rattle.rv_listing.specs.Numerals.{hexadecimal, four_digits, eight_digits}

-- the register with a number, as `x10`
abbrev pub register : ℕ → List ℕ
register r = codes "x" ++ decimal r

-- an address relative to a register, as `-4(x2)`
abbrev pub relative : ℤ → ℕ → List ℕ
relative imm base = signed_decimal imm ++ codes "(" ++ register base ++ codes ")"

-- an address and an offset from it, modulo 2 ^ 32
abbrev pub target_address : ℕ → ℤ → ℕ
target_address addr offset = unsigned_abs (int_rem_euclid (pos addr +ℤ offset) (pos (2 ^ 32)))

-- the address to which an instruction at `addr` jumps, as `0x0000000c`
abbrev pub target : ℕ → ℤ → List ℕ
target addr offset = codes "0x" ++ eight_digits (target_address addr offset)

-- the operands of an instruction at `addr`, in the order in which they are written
abbrev pub operands_of : Instr → ℕ → List (List ℕ)
operands_of (R op rd rs1 rs2) addr = register rd ∷ register rs1 ∷ register rs2 ∷ []
operands_of (I op rd rs1 imm) addr = register rd ∷ register rs1 ∷ signed_decimal imm ∷ []
operands_of (Shift op rd rs1 shamt) addr = register rd ∷ register rs1 ∷ decimal shamt ∷ []
operands_of (Load op rd rs1 imm) addr = register rd ∷ relative imm rs1 ∷ []
operands_of (Store op rs1 rs2 imm) addr = register rs2 ∷ relative imm rs1 ∷ []
operands_of (Branch op rs1 rs2 imm) addr = register rs1 ∷ register rs2 ∷ target addr imm ∷ []
operands_of (Upper op rd imm) addr = register rd ∷ (codes "0x" ++ hexadecimal imm) ∷ []
operands_of (Jal rd imm) addr = register rd ∷ target addr imm ∷ []
operands_of (Jalr rd rs1 imm) addr = register rd ∷ relative imm rs1 ∷ []
operands_of (Plain op) addr = []

-- a blank and the operands with commas between them, or nothing where there are none
abbrev pub operand_list : List (List ℕ) → List ℕ
operand_list [] = []
operand_list (first ∷ others) = codes " " ++ first ++ flat_map (λ operand. codes "," ++ operand) others

-- an instruction at `addr`: its mnemonic and its operands
abbrev pub instruction_text : ℕ → Instr → List ℕ
instruction_text addr i = mnemonic_of i ++ operand_list (operands_of i addr)

-- a compressed instruction at `addr`, by the instruction to which it expands
abbrev pub compressed_text : ℕ → Instr → List ℕ
compressed_text addr i = instruction_text addr i ++ codes " # compressed"

-- a halfword and a word without an instruction, as data
abbrev pub half_data : ℕ → List ℕ
half_data half = codes ".half 0x" ++ four_digits half

abbrev pub word_data : ℕ → List ℕ
word_data word = codes ".word 0x" ++ eight_digits word

-- the statement of a code at `addr`: its instruction, or data where it has none
unfoldable pub statement_of : Code → ℕ → List ℕ
statement_of (Half half) addr = option_map_or (compressed_text addr) (expansion_of half) (half_data half)
statement_of (Word word) addr = option_map_or (instruction_text addr) (instruction_of word) (word_data word)
