-- The fields of a halfword that is an instruction (RISC-V Unprivileged ISA 20191213, section 16.2 "Compressed Instruction
-- Formats"), and the immediates in it.
use Rattle.std.specs.Prelude.{ℕ, ◌+◌, ◌-◌, ◌*◌, ◌^◌, ◌==◌, Bool, List, [], ◌∷◌, ℤ, pos, unsigned_abs}
use Rattle.std.specs.Int.{int_rem_euclid}
use Rattle.std.specs.List.{sum_by}
use Rattle.rv_tables.specs.Fields.{bits}

abbrev pub quadrant : ℕ → ℕ
quadrant h = bits h 1 0

abbrev pub funct3 : ℕ → ℕ
funct3 h = bits h 15 13

-- rd and rs1 where they are one of all registers
abbrev pub rd : ℕ → ℕ
rd h = bits h 11 7

-- rs2 where it is one of all registers
abbrev pub rs2 : ℕ → ℕ
rs2 h = bits h 6 2

-- rs1' and rd' of branches and arithmetic, rs1' of loads and stores: one of x8 to x15
abbrev pub rs1_prime : ℕ → ℕ
rs1_prime h = 8 + bits h 9 7

-- rs2', and rd' of C.LW and C.ADDI4SPN: one of x8 to x15
abbrev pub rs2_prime : ℕ → ℕ
rs2_prime h = 8 + bits h 4 2

-- the bits of a number from `high` down to `low`
pub record Span : Type 0 where
  pub high : ℕ
  pub low : ℕ

infix 80 ◌to◌
abbrev pub ◌to◌ : ℕ → ℕ → Span
high to low = record { high = high; low = low }

-- one bit
abbrev pub bit : ℕ → Span
bit n = n to n

abbrev pub width : Span → ℕ
width s = s.high - s.low + 1

-- a part of a halfword, and the bits of the immediate that stand in it, from left to right
pub record Part : Type 0 where
  pub place : Span
  pub spans : List Span

infix 75 ◌holds◌
abbrev pub ◌holds◌ : Span → List Span → Part
place holds spans = record { place = place; spans = spans }

-- the number that these bits of an immediate are, which stand in a halfword below bit `top`
abbrev pub placed : ℕ → ℕ → List Span → ℕ
placed h top [] = 0
placed h top (s ∷ spans) = bits h (top - 1) (top - width s) * 2 ^ s.low + placed h (top - width s) spans

-- the immediate in a halfword, by its layout
abbrev pub immediate : ℕ → List Part → ℕ
immediate h [] = 0
immediate h (p ∷ parts) = placed h (p.place.high + 1) p.spans + immediate h parts

-- the test whether the spans have as many bits as the place in which they stand
abbrev pub is_filled : Part → Bool
is_filled p = sum_by width p.spans == width p.place

-- The layouts, each as the listings write it (section 16.8 "RVC Instruction Set Listings").

-- C.ADDI4SPN: nzuimm[5:4|9:6|2|3]
abbrev pub addi4spn_layout : List Part
addi4spn_layout = 12 to 5 holds (5 to 4 ∷ 9 to 6 ∷ bit 2 ∷ bit 3 ∷ []) ∷ []

-- C.LW, C.SW: uimm[5:3], uimm[2|6]
abbrev pub word_layout : List Part
word_layout = 12 to 10 holds (5 to 3 ∷ []) ∷ 6 to 5 holds (bit 2 ∷ bit 6 ∷ []) ∷ []

-- C.ADDI, C.LI, C.ANDI: imm[5], imm[4:0], and the amount of C.SLLI, C.SRLI, C.SRAI: nzuimm[5], nzuimm[4:0]
abbrev pub small_layout : List Part
small_layout = bit 12 holds (bit 5 ∷ []) ∷ 6 to 2 holds (4 to 0 ∷ []) ∷ []

-- C.ADDI16SP: nzimm[9], nzimm[4|6|8:7|5]
abbrev pub addi16sp_layout : List Part
addi16sp_layout = bit 12 holds (bit 9 ∷ []) ∷ 6 to 2 holds (bit 4 ∷ bit 6 ∷ 8 to 7 ∷ bit 5 ∷ []) ∷ []

-- C.LUI: nzimm[17], nzimm[16:12]
abbrev pub lui_layout : List Part
lui_layout = bit 12 holds (bit 17 ∷ []) ∷ 6 to 2 holds (16 to 12 ∷ []) ∷ []

-- C.J, C.JAL: imm[11|4|9:8|10|6|7|3:1|5]
abbrev pub jump_layout : List Part
jump_layout =
    12 to 2 holds (bit 11 ∷ bit 4 ∷ 9 to 8 ∷ bit 10 ∷ bit 6 ∷ bit 7 ∷ 3 to 1 ∷ bit 5 ∷ []) ∷ []

-- C.BEQZ, C.BNEZ: imm[8|4:3], imm[7:6|2:1|5]
abbrev pub branch_layout : List Part
branch_layout =
    12 to 10 holds (bit 8 ∷ 4 to 3 ∷ []) ∷ 6 to 2 holds (7 to 6 ∷ 2 to 1 ∷ bit 5 ∷ []) ∷ []

-- C.LWSP: uimm[5], uimm[4:2|7:6]
abbrev pub lwsp_layout : List Part
lwsp_layout = bit 12 holds (bit 5 ∷ []) ∷ 6 to 2 holds (4 to 2 ∷ 7 to 6 ∷ []) ∷ []

-- C.SWSP: uimm[5:2|7:6]
abbrev pub swsp_layout : List Part
swsp_layout = 12 to 7 holds (5 to 2 ∷ 7 to 6 ∷ []) ∷ []

-- the field of LUI that gives a register this signed number: bits 31 to 12 of its two's complement
abbrev pub upper_field : ℤ → ℕ
upper_field z = bits (unsigned_abs (int_rem_euclid z (pos (2 ^ 32)))) 31 12
