-- The rows of RV32C without floating point (RISC-V Unprivileged ISA 20191213, section 16.8 "RVC Instruction Set Listings"),
-- and the instruction that a halfword expands to.
--
-- What is in no row expands to nothing: the quadrant of words, the loads and stores of floating point, the instructions of
-- RV64C and RV128C, and the codes that the listings reserve whole.
use Rattle.std.specs.Prelude.{◌≡◌, ℕ, List, [], ◌∷◌, Option, Contains, IsTrue, IsFalse, ◌⊎◌, pos}
use Rattle.rv_tables.specs.declared.instr.Instr.{Instr}
use Rattle.rv_tables.specs.declared.instr.Instr.TheVariants.{R, I, Shift, Load, Store, Branch, Upper, Jal, Jalr, Plain}
use Rattle.rv_tables.specs.declared.instr.ROp.TheVariants.{Add, Sub, Xor, Or, And}
use Rattle.rv_tables.specs.declared.instr.IOp.TheVariants.{Addi, Andi}
use Rattle.rv_tables.specs.declared.instr.ShiftOp.TheVariants.{Slli, Srli, Srai}
use Rattle.rv_tables.specs.declared.instr.LoadOp.TheVariants.{Lw}
use Rattle.rv_tables.specs.declared.instr.StoreOp.TheVariants.{Sw}
use Rattle.rv_tables.specs.declared.instr.BranchOp.TheVariants.{Beq, Bne}
use Rattle.rv_tables.specs.declared.instr.UpperOp.TheVariants.{Lui}
use Rattle.rv_tables.specs.declared.instr.PlainOp.TheVariants.{Ebreak}
use Rattle.rv_tables.specs.CompressedTables.{Fixed, ◌is◌, has_none, CompressedRow, c_row, ◌leaves◌, ◌reserves◌, ◌hints_at◌, is_of, meets}
use Rattle.rv_tables.specs.CompressedTables.{ExpandsBy, expansion_by}
use Rattle.rv_tables.specs.Fields.{sign_extended}
use Rattle.rv_tables.specs.Halfwords.{rd, rs2, rs1_prime, rs2_prime, ◌to◌, bit, addi4spn_layout, word_layout, small_layout, addi16sp_layout}
use Rattle.rv_tables.specs.Halfwords.{lui_layout, jump_layout, branch_layout, lwsp_layout, swsp_layout, upper_field}

-- codes of which rows speak: fields that are 0, and an immediate or amount of 0 in bits 12 and 6 to 2
abbrev pub rd_is_0 : List Fixed
rd_is_0 = 11 to 7 is 0 ∷ []

abbrev pub rs2_is_0 : List Fixed
rs2_is_0 = 6 to 2 is 0 ∷ []

abbrev pub small_is_0 : List Fixed
small_is_0 = bit 12 is 0 ∷ 6 to 2 is 0 ∷ []

-- an amount above 31, which has no meaning on 32 bits, and is left to extensions that are no standard (section 16.8, "NSE")
abbrev pub amount_has_bit_5 : List Fixed
amount_has_bit_5 = bit 12 is 1 ∷ []

-- Quadrant 0.

-- an immediate of 0 is reserved, the halfword 0 among these
abbrev pub c_addi4spn : CompressedRow Instr
c_addi4spn =
    c_row 0 0 [] addi4spn_layout (λ h imm. I Addi (rs2_prime h) 2 (pos imm)) reserves (12 to 5 is 0 ∷ [])

abbrev pub c_lw : CompressedRow Instr
c_lw = c_row 0 2 [] word_layout (λ h imm. Load Lw (rs2_prime h) (rs1_prime h) (pos imm))

abbrev pub c_sw : CompressedRow Instr
c_sw = c_row 0 6 [] word_layout (λ h imm. Store Sw (rs1_prime h) (rs2_prime h) (pos imm))

-- Quadrant 1.

-- with rd and immediate 0 it is C.NOP, which stands among the hints here; with one of them 0, a hint
abbrev pub c_addi : CompressedRow Instr
c_addi = c_row 1 0 [] small_layout (λ h imm. I Addi (rd h) (rd h) (sign_extended 6 imm)) hints_at rd_is_0 hints_at small_is_0

abbrev pub c_jal : CompressedRow Instr
c_jal = c_row 1 1 [] jump_layout (λ h imm. Jal 1 (sign_extended 12 imm))

abbrev pub c_li : CompressedRow Instr
c_li = c_row 1 2 [] small_layout (λ h imm. I Addi (rd h) 0 (sign_extended 6 imm)) hints_at rd_is_0

abbrev pub c_addi16sp : CompressedRow Instr
c_addi16sp =
    c_row 1 3 (11 to 7 is 2 ∷ []) addi16sp_layout (λ h imm. I Addi 2 2 (sign_extended 10 imm)) reserves small_is_0

abbrev pub c_lui : CompressedRow Instr
c_lui =
    c_row 1 3 [] lui_layout (λ h imm. Upper Lui (rd h) (upper_field (sign_extended 18 imm)))
    leaves (11 to 7 is 2 ∷ []) reserves small_is_0 hints_at rd_is_0

abbrev pub c_srli : CompressedRow Instr
c_srli =
    c_row 1 4 (11 to 10 is 0 ∷ []) small_layout (λ h imm. Shift Srli (rs1_prime h) (rs1_prime h) imm)
    reserves amount_has_bit_5 hints_at small_is_0

abbrev pub c_srai : CompressedRow Instr
c_srai =
    c_row 1 4 (11 to 10 is 1 ∷ []) small_layout (λ h imm. Shift Srai (rs1_prime h) (rs1_prime h) imm)
    reserves amount_has_bit_5 hints_at small_is_0

abbrev pub c_andi : CompressedRow Instr
c_andi =
    c_row 1 4 (11 to 10 is 2 ∷ []) small_layout (λ h imm. I Andi (rs1_prime h) (rs1_prime h) (sign_extended 6 imm))

abbrev pub c_sub : CompressedRow Instr
c_sub =
    c_row 1 4 (bit 12 is 0 ∷ 11 to 10 is 3 ∷ 6 to 5 is 0 ∷ []) [] (λ h _. R Sub (rs1_prime h) (rs1_prime h) (rs2_prime h))

abbrev pub c_xor : CompressedRow Instr
c_xor =
    c_row 1 4 (bit 12 is 0 ∷ 11 to 10 is 3 ∷ 6 to 5 is 1 ∷ []) [] (λ h _. R Xor (rs1_prime h) (rs1_prime h) (rs2_prime h))

abbrev pub c_or : CompressedRow Instr
c_or =
    c_row 1 4 (bit 12 is 0 ∷ 11 to 10 is 3 ∷ 6 to 5 is 2 ∷ []) [] (λ h _. R Or (rs1_prime h) (rs1_prime h) (rs2_prime h))

abbrev pub c_and : CompressedRow Instr
c_and =
    c_row 1 4 (bit 12 is 0 ∷ 11 to 10 is 3 ∷ 6 to 5 is 3 ∷ []) [] (λ h _. R And (rs1_prime h) (rs1_prime h) (rs2_prime h))

abbrev pub c_j : CompressedRow Instr
c_j = c_row 1 5 [] jump_layout (λ h imm. Jal 0 (sign_extended 12 imm))

abbrev pub c_beqz : CompressedRow Instr
c_beqz = c_row 1 6 [] branch_layout (λ h imm. Branch Beq (rs1_prime h) 0 (sign_extended 9 imm))

abbrev pub c_bnez : CompressedRow Instr
c_bnez = c_row 1 7 [] branch_layout (λ h imm. Branch Bne (rs1_prime h) 0 (sign_extended 9 imm))

-- Quadrant 2.

abbrev pub c_slli : CompressedRow Instr
c_slli =
    c_row 2 0 [] small_layout (λ h imm. Shift Slli (rd h) (rd h) imm)
    reserves amount_has_bit_5 hints_at rd_is_0 hints_at small_is_0

abbrev pub c_lwsp : CompressedRow Instr
c_lwsp = c_row 2 2 [] lwsp_layout (λ h imm. Load Lw (rd h) 2 (pos imm)) reserves rd_is_0

abbrev pub c_jr : CompressedRow Instr
c_jr = c_row 2 4 (bit 12 is 0 ∷ 6 to 2 is 0 ∷ []) [] (λ h _. Jalr 0 (rd h) (pos 0)) reserves rd_is_0

abbrev pub c_mv : CompressedRow Instr
c_mv = c_row 2 4 (bit 12 is 0 ∷ []) [] (λ h _. R Add (rd h) 0 (rs2 h)) leaves rs2_is_0 hints_at rd_is_0

abbrev pub c_ebreak : CompressedRow Instr
c_ebreak = c_row 2 4 (bit 12 is 1 ∷ 11 to 7 is 0 ∷ 6 to 2 is 0 ∷ []) [] (λ _ _. Plain Ebreak)

abbrev pub c_jalr : CompressedRow Instr
c_jalr = c_row 2 4 (bit 12 is 1 ∷ 6 to 2 is 0 ∷ []) [] (λ h _. Jalr 1 (rd h) (pos 0)) leaves rd_is_0

abbrev pub c_add : CompressedRow Instr
c_add = c_row 2 4 (bit 12 is 1 ∷ []) [] (λ h _. R Add (rd h) (rd h) (rs2 h)) leaves rs2_is_0 hints_at rd_is_0

abbrev pub c_swsp : CompressedRow Instr
c_swsp = c_row 2 6 [] swsp_layout (λ h imm. Store Sw 2 (rs2 h) (pos imm))

-- in the order of the listings
unfoldable pub compressed_rows : List (CompressedRow Instr)
compressed_rows =
    c_addi4spn ∷ c_lw ∷ c_sw
    ∷ c_addi ∷ c_jal ∷ c_li ∷ c_addi16sp ∷ c_lui
    ∷ c_srli ∷ c_srai ∷ c_andi ∷ c_sub ∷ c_xor ∷ c_or ∷ c_and
    ∷ c_j ∷ c_beqz ∷ c_bnez
    ∷ c_slli ∷ c_lwsp ∷ c_jr ∷ c_mv ∷ c_ebreak ∷ c_jalr ∷ c_add ∷ c_swsp
    ∷ []

-- a halfword is of a row, at a code that the row reserves
pub record IsReserved (h : ℕ) : Type 0 where
  pub row : CompressedRow Instr
  pub listed : Contains compressed_rows row
  pub is_of_row : IsTrue (is_of h row)
  pub is_reserved : IsFalse (has_none h row.reserved)

-- a halfword meets a row, at a code that is a hint
pub record IsHint (h : ℕ) : Type 0 where
  pub row : CompressedRow Instr
  pub listed : Contains compressed_rows row
  pub met : IsTrue (meets h row)
  pub is_hint : IsFalse (has_none h row.hints)

-- whatever the registers are, the instruction leaves them as they are, and goes on to the next one: it writes to x0, or
-- adds 0 to a register, or shifts one by 0
abbrev pub DoesNothing : Instr → Type 0
DoesNothing (R op rd rs1 rs2) = rd ≡ 0
DoesNothing (I Addi rd rs1 imm) = (rd ≡ 0) ⊎ ((rd ≡ rs1) × (imm ≡ pos 0))
DoesNothing (Shift op rd rs1 shamt) = (rd ≡ 0) ⊎ ((rd ≡ rs1) × (shamt ≡ 0))
DoesNothing (Upper op rd imm) = rd ≡ 0
DoesNothing _ = ⊥

-- a halfword expands to an instruction: it meets a row, and the instruction is the row's
abbrev pub Expands : ℕ → Instr → Type 0
Expands h i = ExpandsBy compressed_rows h i

-- the instruction that a halfword expands to: that of the row that it meets, or none
unfoldable pub expansion_of : ℕ → Option Instr
expansion_of h = expansion_by compressed_rows h
