-- The mnemonic of each row: its name in the listings (RISC-V Unprivileged ISA 20191213, chapter 24) in lower case; and the names of
-- rounding modes (table 11.1) and of control and status registers (section 11.2), which stand in assembly in lower case too.
use Rattle.std.specs.Prelude.{ℕ, ◌*◌, ◌^◌, Bool, false, List, [], ◌∷◌, ◌++◌, codes, find, Option}
use Rattle.std.specs.Option.{option_map_or}
use Rattle.std.specs.Str.{bytes_eq}
use Rattle.rv_tables.specs.Names.{named_by}
use Rattle.rv_float_tables.specs.declared.instr.FloatInstr.{FloatInstr}
use Rattle.rv_float_tables.specs.declared.instr.FloatInstr.TheVariants.{Load, Store, Fused, Arithmetic, SquareRoot, Sign, MinMax, Compare}
use Rattle.rv_float_tables.specs.declared.instr.FloatInstr.TheVariants.{Class, ToWord, FromWord, ToFormat, MoveToInteger, MoveFromInteger}
use Rattle.rv_float_tables.specs.declared.instr.FloatInstr.TheVariants.{Csr, CsrImmediate}
use Rattle.rv_float_tables.specs.declared.instr.Format.{Format}
use Rattle.rv_float_tables.specs.declared.instr.Format.TheVariants.{Single, Double}
use Rattle.rv_float_tables.specs.declared.instr.RoundingField.{RoundingField}
use Rattle.rv_float_tables.specs.declared.instr.RoundingField.TheVariants.{Rne, Rtz, Rdn, Rup, Rmm, Dyn}
use Rattle.rv_float_tables.specs.declared.instr.ArithmeticOp.{ArithmeticOp}
use Rattle.rv_float_tables.specs.declared.instr.ArithmeticOp.TheVariants.{Add, Sub, Mul, Div}
use Rattle.rv_float_tables.specs.declared.instr.FusedOp.{FusedOp}
use Rattle.rv_float_tables.specs.declared.instr.FusedOp.TheVariants.{Madd, Msub, Nmsub, Nmadd}
use Rattle.rv_float_tables.specs.declared.instr.SignOp.{SignOp}
use Rattle.rv_float_tables.specs.declared.instr.SignOp.TheVariants.{Sgnj, Sgnjn, Sgnjx}
use Rattle.rv_float_tables.specs.declared.instr.MinMaxOp.{MinMaxOp}
use Rattle.rv_float_tables.specs.declared.instr.MinMaxOp.TheVariants.{Min, Max}
use Rattle.rv_float_tables.specs.declared.instr.CompareOp.{CompareOp}
use Rattle.rv_float_tables.specs.declared.instr.CompareOp.TheVariants.{Feq, Flt, Fle}
use Rattle.rv_float_tables.specs.declared.instr.WordKind.{WordKind}
use Rattle.rv_float_tables.specs.declared.instr.WordKind.TheVariants.{Signed, Unsigned}
use Rattle.rv_float_tables.specs.declared.instr.CsrOp.{CsrOp}
use Rattle.rv_float_tables.specs.declared.instr.CsrOp.TheVariants.{Write, Set, Clear}
use Rattle.rv_float_tables.specs.declared.instr.FloatCsr.{FloatCsr}
use Rattle.rv_float_tables.specs.declared.instr.FloatCsr.TheVariants.{Fflags, Frm, Fcsr}
use Rattle.rv_float_tables.specs.Rows.{FloatEncoding, float_encodings}

-- a name with what tells the format
abbrev pub of_format : List ℕ → Format → List ℕ
of_format stem Single = stem ++ codes ".s"
of_format stem Double = stem ++ codes ".d"

abbrev pub load_mnemonic : Format → List ℕ
load_mnemonic Single = codes "flw"
load_mnemonic Double = codes "fld"

abbrev pub store_mnemonic : Format → List ℕ
store_mnemonic Single = codes "fsw"
store_mnemonic Double = codes "fsd"

abbrev pub fused_mnemonic : FusedOp → Format → List ℕ
fused_mnemonic Madd = of_format (codes "fmadd")
fused_mnemonic Msub = of_format (codes "fmsub")
fused_mnemonic Nmsub = of_format (codes "fnmsub")
fused_mnemonic Nmadd = of_format (codes "fnmadd")

abbrev pub arithmetic_mnemonic : ArithmeticOp → Format → List ℕ
arithmetic_mnemonic Add = of_format (codes "fadd")
arithmetic_mnemonic Sub = of_format (codes "fsub")
arithmetic_mnemonic Mul = of_format (codes "fmul")
arithmetic_mnemonic Div = of_format (codes "fdiv")

abbrev pub sign_mnemonic : SignOp → Format → List ℕ
sign_mnemonic Sgnj = of_format (codes "fsgnj")
sign_mnemonic Sgnjn = of_format (codes "fsgnjn")
sign_mnemonic Sgnjx = of_format (codes "fsgnjx")

abbrev pub min_max_mnemonic : MinMaxOp → Format → List ℕ
min_max_mnemonic Min = of_format (codes "fmin")
min_max_mnemonic Max = of_format (codes "fmax")

abbrev pub compare_mnemonic : CompareOp → Format → List ℕ
compare_mnemonic Feq = of_format (codes "feq")
compare_mnemonic Flt = of_format (codes "flt")
compare_mnemonic Fle = of_format (codes "fle")

abbrev pub to_word_mnemonic : WordKind → Format → List ℕ
to_word_mnemonic Signed = of_format (codes "fcvt.w")
to_word_mnemonic Unsigned = of_format (codes "fcvt.wu")

abbrev pub from_word_mnemonic : WordKind → Format → List ℕ
from_word_mnemonic Signed format = of_format (codes "fcvt") format ++ codes ".w"
from_word_mnemonic Unsigned format = of_format (codes "fcvt") format ++ codes ".wu"

abbrev pub to_format_mnemonic : Format → List ℕ
to_format_mnemonic Single = codes "fcvt.s.d"
to_format_mnemonic Double = codes "fcvt.d.s"

abbrev pub csr_mnemonic : CsrOp → List ℕ
csr_mnemonic Write = codes "csrrw"
csr_mnemonic Set = codes "csrrs"
csr_mnemonic Clear = codes "csrrc"

abbrev pub float_mnemonic_of : FloatInstr → List ℕ
float_mnemonic_of (Load format rd rs1 imm) = load_mnemonic format
float_mnemonic_of (Store format rs1 rs2 imm) = store_mnemonic format
float_mnemonic_of (Fused op format rd rs1 rs2 rs3 rm) = fused_mnemonic op format
float_mnemonic_of (Arithmetic op format rd rs1 rs2 rm) = arithmetic_mnemonic op format
float_mnemonic_of (SquareRoot format rd rs1 rm) = of_format (codes "fsqrt") format
float_mnemonic_of (Sign op format rd rs1 rs2) = sign_mnemonic op format
float_mnemonic_of (MinMax op format rd rs1 rs2) = min_max_mnemonic op format
float_mnemonic_of (Compare op format rd rs1 rs2) = compare_mnemonic op format
float_mnemonic_of (Class format rd rs1) = of_format (codes "fclass") format
float_mnemonic_of (ToWord kind format rd rs1 rm) = to_word_mnemonic kind format
float_mnemonic_of (FromWord kind format rd rs1 rm) = from_word_mnemonic kind format
float_mnemonic_of (ToFormat format rd rs1 rm) = to_format_mnemonic format
float_mnemonic_of (MoveToInteger rd rs1) = codes "fmv.x.w"
float_mnemonic_of (MoveFromInteger rd rs1) = codes "fmv.w.x"
float_mnemonic_of (Csr op csr rd rs1) = csr_mnemonic op
float_mnemonic_of (CsrImmediate op csr rd imm) = csr_mnemonic op ++ codes "i"

-- a word of a row on `fcsr`, rounding to nearest
abbrev pub sample : ℕ
sample = 3 * 2 ^ 20

-- the test whether a row has a mnemonic, which is the same whatever word it reads
abbrev pub has_mnemonic : List ℕ → FloatEncoding → Bool
has_mnemonic name e = option_map_or (λ i. bytes_eq (float_mnemonic_of i) name) (e.read sample) false

-- the row that has a mnemonic
unfoldable pub float_row_named : List ℕ → Option FloatEncoding
float_row_named name = find (has_mnemonic name) float_encodings

-- each name with its rounding mode
unfoldable pub rounding_names : List (List ℕ × RoundingField)
rounding_names =
    (codes "rne", Rne) ∷ (codes "rtz", Rtz) ∷ (codes "rdn", Rdn) ∷ (codes "rup", Rup) ∷ (codes "rmm", Rmm)
    ∷ (codes "dyn", Dyn) ∷ []

-- the rounding mode with a name, or none
unfoldable pub rounding_named : List ℕ → Option RoundingField
rounding_named name = named_by rounding_names name

abbrev pub rounding_name : RoundingField → List ℕ
rounding_name Rne = codes "rne"
rounding_name Rtz = codes "rtz"
rounding_name Rdn = codes "rdn"
rounding_name Rup = codes "rup"
rounding_name Rmm = codes "rmm"
rounding_name Dyn = codes "dyn"

-- each name with its register
unfoldable pub csr_names : List (List ℕ × FloatCsr)
csr_names = (codes "fflags", Fflags) ∷ (codes "frm", Frm) ∷ (codes "fcsr", Fcsr) ∷ []

-- the register with a name, or none
unfoldable pub csr_named : List ℕ → Option FloatCsr
csr_named name = named_by csr_names name

abbrev pub csr_name : FloatCsr → List ℕ
csr_name Fflags = codes "fflags"
csr_name Frm = codes "frm"
csr_name Fcsr = codes "fcsr"
