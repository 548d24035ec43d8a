-- The operands that the fields of a word have room for (RISC-V Unprivileged ISA 20191213, section 2.2 "Base
-- Instruction Formats" and section 2.3 "Immediate Encoding Variants").
use Rattle.std.specs.Prelude.{◌≡◌, ℕ, ◌-◌, ◌<◌, ◌^◌, ℤ, pos, neg_ℤ, ◌≤ℤ◌, ◌<ℤ◌, int_rem, Option, IfSome}
use Rattle.rv_tables.specs.declared.instr.Instr.{Instr}
use Rattle.rv_tables.specs.declared.instr.Instr.TheVariants.{R, I, Shift, Load, Store, Branch, Upper, Jal, Jalr, Plain}
use Rattle.rv_tables.specs.declared.instr.PlainOp.TheVariants.{Fence, FenceI}

-- x0 to x31
abbrev pub IsRegister : ℕ → Type 0
IsRegister r = r < 32

-- a number that two's complement of `width` bits has
abbrev pub IsSigned : ℕ → ℤ → Type 0
IsSigned width z = (neg_ℤ (pos (2 ^ (width - 1))) ≤ℤ z) × (z <ℤ pos (2 ^ (width - 1)))

abbrev pub IsEven : ℤ → Type 0
IsEven z = int_rem z (pos 2) ≡ pos 0

-- -2048 to 2047
abbrev pub IsImmediate : ℤ → Type 0
IsImmediate imm = IsSigned 12 imm

-- an even number, -4096 to 4094
abbrev pub IsBranchOffset : ℤ → Type 0
IsBranchOffset imm = IsSigned 13 imm × IsEven imm

-- an even number, -1048576 to 1048574
abbrev pub IsJumpOffset : ℤ → Type 0
IsJumpOffset imm = IsSigned 21 imm × IsEven imm

-- each operand is in the range of its form
abbrev pub IsEncodable : Instr → Type 0
IsEncodable (R op rd rs1 rs2) = IsRegister rd × IsRegister rs1 × IsRegister rs2
IsEncodable (I op rd rs1 imm) = IsRegister rd × IsRegister rs1 × IsImmediate imm
IsEncodable (Shift op rd rs1 shamt) = IsRegister rd × IsRegister rs1 × (shamt < 32)
IsEncodable (Load op rd rs1 imm) = IsRegister rd × IsRegister rs1 × IsImmediate imm
IsEncodable (Store op rs1 rs2 imm) = IsRegister rs1 × IsRegister rs2 × IsImmediate imm
IsEncodable (Branch op rs1 rs2 imm) = IsRegister rs1 × IsRegister rs2 × IsBranchOffset imm
IsEncodable (Upper op rd imm) = IsRegister rd × (imm < 2 ^ 20)
IsEncodable (Jal rd imm) = IsRegister rd × IsJumpOffset imm
IsEncodable (Jalr rd rs1 imm) = IsRegister rd × IsRegister rs1 × IsImmediate imm
IsEncodable (Plain op) = Unit {0}

-- what a code or a name stands for was to be found: it is this, if anything, and is in its range
pub record IsFound {T : Type 0} (InRange : T → Type 0) (meant result : Option T) : Type 0 where
  pub value : result ≡ meant
  pub encodable : IfSome result InRange

-- the instructions that many words spell: a fence's word has fields that are no operands of it
abbrev pub IsFence : Instr → Type 0
IsFence (Plain Fence) = Unit {0}
IsFence (Plain FenceI) = Unit {0}
IsFence _ = ⊥
