-- The state of the unit of floating point: f0 to f31 and fcsr (RISC-V Unprivileged ISA 20191213, sections 11.1, 11.2, 12.1 and 12.2).
use Rattle.std.specs.Prelude.{◌≡◌, ℕ, ◌+◌, ◌*◌, ◌/◌, ◌%◌, ◌^◌, ◌<◌, List, length, All, replicate, slice_index, slice_set}
use Rattle.rv_floats.specs.Conversions.{in_register, of_register}
use Rattle.rv_float_flags.specs.declared.flags.Flags.{Flags}
use Rattle.rv_float_flags.specs.Flags.{no_flags, accrued, flag_bits, flags_of_bits}
use Rattle.rv_float_tables.specs.declared.instr.Format.{Format}
use Rattle.rv_float_tables.specs.declared.instr.Format.TheVariants.{Single, Double}
use Rattle.rv_float_tables.specs.declared.instr.FloatCsr.{FloatCsr}
use Rattle.rv_float_tables.specs.declared.instr.FloatCsr.TheVariants.{Fflags, Frm, Fcsr}
use Rattle.float_unit.specs.Values.{ieee}

-- the patterns of 64 bits of f0 to f31, and the two fields of fcsr: the dynamic rounding mode and the accrued exceptions
pub record FloatState : Type 0 where
  pub registers : List ℕ
  pub frm : ℕ
  pub flags : Flags

-- all zero (own rule; the manual leaves it open)
abbrev pub start : FloatState
start = record { registers = replicate 32 0; frm = 0; flags = no_flags }

-- what a state has: 32 registers, each of 64 bits, and three bits of a mode
pub record IsState (u : FloatState) : Type 0 where
  pub thirty_two : length u.registers ≡ 32
  pub wide : All (λ a. a < 2 ^ 64) u.registers
  pub three_bits : u.frm < 2 ^ 3

-- the operand of a format in a register: a single that is not boxed is the canonical NaN (section 12.2)
abbrev pub operand : Format → FloatState → ℕ → ℕ
operand format u r = of_register (ieee format) (slice_index u.registers r)

-- a result of a format, as a register has it
abbrev pub held : Format → ℕ → ℕ
held format a = in_register (ieee format) a

-- the pattern of a format among 64 bits: of a single the lower half
abbrev pub narrowed : Format → ℕ → ℕ
narrowed Single a = a % 2 ^ 32
narrowed Double a = a

abbrev pub with_register : FloatState → ℕ → ℕ → FloatState
with_register u r a = record u { registers = slice_set u.registers r a }

-- flags are sticky: what is raised stays until it is written
abbrev pub with_flags : FloatState → Flags → FloatState
with_flags u flags = record u { flags = accrued u.flags flags }

-- ---- the control and status registers (figures 11.1 and 11.2)

abbrev pub csr_value : FloatCsr → FloatState → ℕ
csr_value Fflags u = flag_bits u.flags
csr_value Frm u = u.frm
csr_value Fcsr u = u.frm * 2 ^ 5 + flag_bits u.flags

-- a CSR takes of a word the bits that it has: the others are reserved, and read as zeros
abbrev pub with_csr : FloatCsr → FloatState → ℕ → FloatState
with_csr Fflags u v = record u { flags = flags_of_bits v }
with_csr Frm u v = record u { frm = v % 2 ^ 3 }
with_csr Fcsr u v = record u { frm = v / 2 ^ 5 % 2 ^ 3; flags = flags_of_bits v }
