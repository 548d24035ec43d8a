-- The fields of an instruction's word (RISC-V Unprivileged ISA 20191213, section 2.2 "Base Instruction Formats" and
-- section 2.3 "Immediate Encoding Variants").
use Rattle.std.specs.Prelude.{ℕ, ◌+◌, ◌-◌, ◌*◌, ◌/◌, ◌%◌, ◌^◌, nat_lt, if◌then◌else◌, ℤ, pos, ◌-ℤ◌}

-- the bits of a word from `high` down to `low`, as a number
abbrev pub bits : ℕ → ℕ → ℕ → ℕ
bits w high low = w / 2 ^ low % 2 ^ (high - low + 1)

abbrev pub opcode : ℕ → ℕ
opcode w = w % 2 ^ 7

abbrev pub funct3 : ℕ → ℕ
funct3 w = bits w 14 12

abbrev pub funct7 : ℕ → ℕ
funct7 w = bits w 31 25

abbrev pub rd : ℕ → ℕ
rd w = bits w 11 7

abbrev pub rs1 : ℕ → ℕ
rs1 w = bits w 19 15

abbrev pub rs2 : ℕ → ℕ
rs2 w = bits w 24 20

-- the shift amount of a shift by an immediate
abbrev pub shamt : ℕ → ℕ
shamt w = bits w 24 20

-- a number of `width` bits as a signed number in two's complement
abbrev pub sign_extended : ℕ → ℕ → ℤ
sign_extended width n = if nat_lt n (2 ^ (width - 1)) then pos n else pos n -ℤ pos (2 ^ width)

abbrev pub i_immediate : ℕ → ℤ
i_immediate w = sign_extended 12 (bits w 31 20)

abbrev pub s_immediate : ℕ → ℤ
s_immediate w = sign_extended 12 (bits w 31 25 * 2 ^ 5 + bits w 11 7)

abbrev pub b_immediate : ℕ → ℤ
b_immediate w =
    sign_extended 13 (bits w 31 31 * 2 ^ 12 + bits w 7 7 * 2 ^ 11 + bits w 30 25 * 2 ^ 5 + bits w 11 8 * 2)

-- the field of 20 bits, which the rows that use it take times 2 ^ 12
abbrev pub u_immediate : ℕ → ℕ
u_immediate w = bits w 31 12

abbrev pub j_immediate : ℕ → ℤ
j_immediate w =
    sign_extended 21 (bits w 31 31 * 2 ^ 20 + bits w 19 12 * 2 ^ 12 + bits w 20 20 * 2 ^ 11 + bits w 30 21 * 2)
