-- The rows of RV32C with floating point (RISC-V Unprivileged ISA 20191213, section 16.8 "RVC Instruction Set Listings"), and the
-- instruction that a halfword expands to. These rows reserve no code and have no hints: f0 is a register as any other.
use Rattle.std.specs.Prelude.{ℕ, List, [], ◌∷◌, Option, pos}
use Rattle.rv_tables.specs.CompressedTables.{CompressedRow, c_row, ExpandsBy, expansion_by}
use Rattle.rv_tables.specs.Halfwords.{rd, rs2, rs1_prime, rs2_prime, word_layout, lwsp_layout, swsp_layout}
use Rattle.rv_float_tables.specs.declared.instr.FloatInstr.{FloatInstr}
use Rattle.rv_float_tables.specs.declared.instr.FloatInstr.TheVariants.{Load, Store}
use Rattle.rv_float_tables.specs.declared.instr.Format.{Format}
use Rattle.rv_float_tables.specs.declared.instr.Format.TheVariants.{Single, Double}
use Rattle.rv_float_tables.specs.Halfwords.{double_layout, fldsp_layout, fsdsp_layout}

-- a load and a store through one of x8 to x15, of one of f8 to f15
abbrev pub c_load : Format → ℕ → ℕ → FloatInstr
c_load format h imm = Load format (rs2_prime h) (rs1_prime h) (pos imm)

abbrev pub c_store : Format → ℕ → ℕ → FloatInstr
c_store format h imm = Store format (rs1_prime h) (rs2_prime h) (pos imm)

-- those through the stack pointer
abbrev pub c_load_sp : Format → ℕ → ℕ → FloatInstr
c_load_sp format h imm = Load format (rd h) 2 (pos imm)

abbrev pub c_store_sp : Format → ℕ → ℕ → FloatInstr
c_store_sp format h imm = Store format 2 (rs2 h) (pos imm)

-- in the order of the listings: C.FLD, C.FLW, C.FSD, C.FSW; C.FLDSP, C.FLWSP, C.FSDSP, C.FSWSP
unfoldable pub float_compressed_rows : List (CompressedRow FloatInstr)
float_compressed_rows =
    c_row 0 0b001 [] double_layout (c_load Double)
    ∷ c_row 0 0b011 [] word_layout (c_load Single)
    ∷ c_row 0 0b101 [] double_layout (c_store Double)
    ∷ c_row 0 0b111 [] word_layout (c_store Single)
    ∷ c_row 2 0b001 [] fldsp_layout (c_load_sp Double)
    ∷ c_row 2 0b011 [] lwsp_layout (c_load_sp Single)
    ∷ c_row 2 0b101 [] fsdsp_layout (c_store_sp Double)
    ∷ c_row 2 0b111 [] swsp_layout (c_store_sp Single)
    ∷ []

-- a halfword expands to an instruction: it meets a row, and the instruction is the row's
abbrev pub Expands : ℕ → FloatInstr → Type 0
Expands h i = ExpandsBy float_compressed_rows h i

-- the instruction that a halfword expands to: that of the row that it meets, or none
unfoldable pub float_expansion_of : ℕ → Option FloatInstr
float_expansion_of h = expansion_by float_compressed_rows h
