-- The mnemonic of each row: its name in the listings (RISC-V Unprivileged ISA 20191213, chapter 24) in lower case.
use Rattle.std.specs.Prelude.{ℕ, List, codes, find, Option}
use Rattle.std.specs.Option.{option_map}
use Rattle.std.specs.Str.{bytes_eq}
use Rattle.rv_tables.specs.declared.instr.Instr.{Instr}
use Rattle.rv_tables.specs.declared.instr.Instr.TheVariants.{R, I, Shift, Load, Store, Branch, Upper, Jal, Jalr, Plain}
use Rattle.rv_tables.specs.declared.instr.ROp.{ROp}
use Rattle.rv_tables.specs.declared.instr.ROp.TheVariants.{Add, Sub, Sll, Slt, Sltu, Xor, Srl, Sra, Or, And, Mul, Mulh, Mulhsu, Mulhu, Div}
use Rattle.rv_tables.specs.declared.instr.ROp.TheVariants.{Divu, Rem, Remu}
use Rattle.rv_tables.specs.declared.instr.IOp.{IOp}
use Rattle.rv_tables.specs.declared.instr.IOp.TheVariants.{Addi, Slti, Sltiu, Xori, Ori, Andi}
use Rattle.rv_tables.specs.declared.instr.ShiftOp.{ShiftOp}
use Rattle.rv_tables.specs.declared.instr.ShiftOp.TheVariants.{Slli, Srli, Srai}
use Rattle.rv_tables.specs.declared.instr.LoadOp.{LoadOp}
use Rattle.rv_tables.specs.declared.instr.LoadOp.TheVariants.{Lb, Lh, Lw, Lbu, Lhu}
use Rattle.rv_tables.specs.declared.instr.StoreOp.{StoreOp}
use Rattle.rv_tables.specs.declared.instr.StoreOp.TheVariants.{Sb, Sh, Sw}
use Rattle.rv_tables.specs.declared.instr.BranchOp.{BranchOp}
use Rattle.rv_tables.specs.declared.instr.BranchOp.TheVariants.{Beq, Bne, Blt, Bge, Bltu, Bgeu}
use Rattle.rv_tables.specs.declared.instr.UpperOp.{UpperOp}
use Rattle.rv_tables.specs.declared.instr.UpperOp.TheVariants.{Lui, Auipc}
use Rattle.rv_tables.specs.declared.instr.PlainOp.{PlainOp}
use Rattle.rv_tables.specs.declared.instr.PlainOp.TheVariants.{Fence, FenceI, Ecall, Ebreak}
use Rattle.rv_tables.specs.Rows.{Encoding, encodings}

abbrev pub r_mnemonic : ROp → List ℕ
r_mnemonic Add = codes "add"
r_mnemonic Sub = codes "sub"
r_mnemonic Sll = codes "sll"
r_mnemonic Slt = codes "slt"
r_mnemonic Sltu = codes "sltu"
r_mnemonic Xor = codes "xor"
r_mnemonic Srl = codes "srl"
r_mnemonic Sra = codes "sra"
r_mnemonic Or = codes "or"
r_mnemonic And = codes "and"
r_mnemonic Mul = codes "mul"
r_mnemonic Mulh = codes "mulh"
r_mnemonic Mulhsu = codes "mulhsu"
r_mnemonic Mulhu = codes "mulhu"
r_mnemonic Div = codes "div"
r_mnemonic Divu = codes "divu"
r_mnemonic Rem = codes "rem"
r_mnemonic Remu = codes "remu"

abbrev pub i_mnemonic : IOp → List ℕ
i_mnemonic Addi = codes "addi"
i_mnemonic Slti = codes "slti"
i_mnemonic Sltiu = codes "sltiu"
i_mnemonic Xori = codes "xori"
i_mnemonic Ori = codes "ori"
i_mnemonic Andi = codes "andi"

abbrev pub shift_mnemonic : ShiftOp → List ℕ
shift_mnemonic Slli = codes "slli"
shift_mnemonic Srli = codes "srli"
shift_mnemonic Srai = codes "srai"

abbrev pub load_mnemonic : LoadOp → List ℕ
load_mnemonic Lb = codes "lb"
load_mnemonic Lh = codes "lh"
load_mnemonic Lw = codes "lw"
load_mnemonic Lbu = codes "lbu"
load_mnemonic Lhu = codes "lhu"

abbrev pub store_mnemonic : StoreOp → List ℕ
store_mnemonic Sb = codes "sb"
store_mnemonic Sh = codes "sh"
store_mnemonic Sw = codes "sw"

abbrev pub branch_mnemonic : BranchOp → List ℕ
branch_mnemonic Beq = codes "beq"
branch_mnemonic Bne = codes "bne"
branch_mnemonic Blt = codes "blt"
branch_mnemonic Bge = codes "bge"
branch_mnemonic Bltu = codes "bltu"
branch_mnemonic Bgeu = codes "bgeu"

abbrev pub upper_mnemonic : UpperOp → List ℕ
upper_mnemonic Lui = codes "lui"
upper_mnemonic Auipc = codes "auipc"

abbrev pub plain_mnemonic : PlainOp → List ℕ
plain_mnemonic Fence = codes "fence"
plain_mnemonic FenceI = codes "fence.i"
plain_mnemonic Ecall = codes "ecall"
plain_mnemonic Ebreak = codes "ebreak"

abbrev pub mnemonic_of : Instr → List ℕ
mnemonic_of (R op rd rs1 rs2) = r_mnemonic op
mnemonic_of (I op rd rs1 imm) = i_mnemonic op
mnemonic_of (Shift op rd rs1 shamt) = shift_mnemonic op
mnemonic_of (Load op rd rs1 imm) = load_mnemonic op
mnemonic_of (Store op rs1 rs2 imm) = store_mnemonic op
mnemonic_of (Branch op rs1 rs2 imm) = branch_mnemonic op
mnemonic_of (Upper op rd imm) = upper_mnemonic op
mnemonic_of (Jal rd imm) = codes "jal"
mnemonic_of (Jalr rd rs1 imm) = codes "jalr"
mnemonic_of (Plain op) = plain_mnemonic op

-- the row that has a mnemonic, which is the same whatever word it reads
unfoldable pub row_named : List ℕ → Option Encoding
row_named name = find (λ e. bytes_eq (mnemonic_of (e.read 0)) name) encodings

-- the instruction that has a mnemonic, with 0 for each operand
unfoldable pub instruction_named : List ℕ → Option Instr
instruction_named name = option_map (λ e. e.read 0) (row_named name)
