-- The fields of the words of floating point that those of whole numbers have not (RISC-V Unprivileged ISA 20191213, sections 11.2 to
-- 11.6), and those of the CSR instructions (section 9.1).
use Rattle.std.specs.Prelude.{ℕ, ◌==◌, Option, Some, None, if◌then◌else◌}
use Rattle.rv_tables.specs.Fields.{bits}
use Rattle.rv_float_tables.specs.declared.instr.RoundingField.{RoundingField}
use Rattle.rv_float_tables.specs.declared.instr.RoundingField.TheVariants.{Rne, Rtz, Rdn, Rup, Rmm, Dyn}
use Rattle.rv_float_tables.specs.declared.instr.FloatCsr.{FloatCsr}
use Rattle.rv_float_tables.specs.declared.instr.FloatCsr.TheVariants.{Fflags, Frm, Fcsr}

abbrev pub rs3 : ℕ → ℕ
rs3 w = bits w 31 27

-- what of funct7 is not the format
abbrev pub funct5 : ℕ → ℕ
funct5 w = bits w 31 27

-- the rounding mode, which stands where funct3 does
abbrev pub rm : ℕ → ℕ
rm w = bits w 14 12

abbrev pub csr : ℕ → ℕ
csr w = bits w 31 20

-- the immediate of CSRRWI, CSRRSI and CSRRCI, which stands where rs1 does
abbrev pub uimm : ℕ → ℕ
uimm w = bits w 19 15

-- the codes of the rounding modes (table 11.1); 101 and 110 are reserved
abbrev pub rounding_code : RoundingField → ℕ
rounding_code Rne = 0b000
rounding_code Rtz = 0b001
rounding_code Rdn = 0b010
rounding_code Rup = 0b011
rounding_code Rmm = 0b100
rounding_code Dyn = 0b111

abbrev pub rounding_of : ℕ → Option RoundingField
rounding_of n =
    if n == 0b000 then Some Rne else
    if n == 0b001 then Some Rtz else
    if n == 0b010 then Some Rdn else
    if n == 0b011 then Some Rup else
    if n == 0b100 then Some Rmm else
    if n == 0b111 then Some Dyn else None

-- the numbers of the control and status registers (section 11.2, and the table of chapter 24)
abbrev pub csr_number : FloatCsr → ℕ
csr_number Fflags = 0x001
csr_number Frm = 0x002
csr_number Fcsr = 0x003

abbrev pub csr_of : ℕ → Option FloatCsr
csr_of n = if n == 0x001 then Some Fflags else if n == 0x002 then Some Frm else if n == 0x003 then Some Fcsr else None
