-- What the compressed rows read off halfwords that meet them: operands in the ranges of their forms.
use Rattle.std.proofs.Common.{◌≡◌, ℕ, true, [], ◌∷◌, Option, Some, pos, arith}
use Rattle.std.specs.Prelude.{◌<◌}
use Rattle.std.specs.List.{All}
use Rattle.std.proofs.lemmas.Bool.{and_parts}
use Rattle.std.proofs.lemmas.Bool.Decides.{nat_tests}
use Rattle.std.proofs.lemmas.Int.{ints}
use Rattle.std.proofs.lemmas.List.Elements.{All-from_recursion, All-contains}
use Rattle.rv_tables.specs.declared.instr.Instr.{Instr}
use Rattle.rv_tables.specs.Fields.{sign_extended}
use Rattle.rv_tables.specs.Halfwords.{immediate, addi4spn_layout, word_layout, small_layout, addi16sp_layout, jump_layout, branch_layout}
use Rattle.rv_tables.specs.Halfwords.{lwsp_layout, swsp_layout}
use Rattle.rv_tables.specs.Operands.{IsEncodable, IsFound, IsImmediate, IsBranchOffset, IsJumpOffset}
use Rattle.rv_tables.specs.Compressed.{compressed_rows, expansion_of, amount_has_bit_5, c_addi4spn, c_lw, c_sw, c_addi, c_jal, c_li}
use Rattle.rv_tables.specs.Compressed.{c_addi16sp, c_lui, c_srli, c_srai, c_andi, c_sub, c_xor, c_or, c_and, c_j, c_beqz, c_bnez, c_slli}
use Rattle.rv_tables.specs.Compressed.{c_lwsp, c_jr, c_mv, c_ebreak, c_jalr, c_add, c_swsp}
use Rattle.rv_tables.specs.CompressedTables.{CompressedRow, is_of, meets, expanded, has_none}
use Rattle.rv_tables.proofs.CompressedSpelling.{Expands-from_expansion}
use Rattle.rv_tables.proofs.Pairs.{◌⨾◌}
use Rattle.rv_tables.proofs.Tables.{found}

-- the instruction of a halfword that meets the row has operands in range
abbrev ReadsWell : CompressedRow Instr → Type 0
ReadsWell r = (h : ℕ) → meets h r ≡ true → IsEncodable (expanded h r)

small : (h : ℕ) → IsImmediate (sign_extended 6 (immediate h small_layout))
small h = grind (arith, ints)

addi4spn_offset : (h : ℕ) → IsImmediate (pos (immediate h addi4spn_layout))
addi4spn_offset h = grind (arith, ints)

pub word_offset : (h : ℕ) → IsImmediate (pos (immediate h word_layout))
word_offset h = grind (arith, ints)

pub lwsp_offset : (h : ℕ) → IsImmediate (pos (immediate h lwsp_layout))
lwsp_offset h = grind (arith, ints)

pub swsp_offset : (h : ℕ) → IsImmediate (pos (immediate h swsp_layout))
swsp_offset h = grind (arith, ints)

addi16sp_immediate : (h : ℕ) → IsImmediate (sign_extended 10 (immediate h addi16sp_layout))
addi16sp_immediate h = grind (arith, ints)

jump_offset : (h : ℕ) → IsJumpOffset (sign_extended 12 (immediate h jump_layout))
jump_offset h = grind (arith, ints)

branch_offset : (h : ℕ) → IsBranchOffset (sign_extended 9 (immediate h branch_layout))
branch_offset h = grind (arith, ints)

zero_immediate : IsImmediate (pos 0)
zero_immediate = grind (arith, ints)

amount : (h : ℕ) → has_none h (amount_has_bit_5 ∷ []) ≡ true → immediate h small_layout < 32
amount h e = grind (arith, nat_tests)

not_reserved : (h : ℕ) (r : CompressedRow Instr) → meets h r ≡ true → has_none h r.reserved ≡ true
not_reserved h r e = (and_parts (is_of h r) (has_none h r.reserved) e).1

reads_addi4spn : ReadsWell c_addi4spn
reads_addi4spn h met = (omega arith, omega arith, addi4spn_offset h)

reads_lw : ReadsWell c_lw
reads_lw h met = (omega arith, omega arith, word_offset h)

reads_sw : ReadsWell c_sw
reads_sw h met = (omega arith, omega arith, word_offset h)

reads_addi : ReadsWell c_addi
reads_addi h met = (omega arith, omega arith, small h)

reads_jal : ReadsWell c_jal
reads_jal h met = (omega arith, jump_offset h)

reads_li : ReadsWell c_li
reads_li h met = (omega arith, omega arith, small h)

reads_addi16sp : ReadsWell c_addi16sp
reads_addi16sp h met = (omega arith, omega arith, addi16sp_immediate h)

reads_lui : ReadsWell c_lui
reads_lui h met = (omega arith, omega arith)

reads_srli : ReadsWell c_srli
reads_srli h met = (omega arith, omega arith, amount h (not_reserved h c_srli met))

reads_srai : ReadsWell c_srai
reads_srai h met = (omega arith, omega arith, amount h (not_reserved h c_srai met))

reads_andi : ReadsWell c_andi
reads_andi h met = (omega arith, omega arith, small h)

reads_sub : ReadsWell c_sub
reads_sub h met = (omega arith, omega arith, omega arith)

reads_xor : ReadsWell c_xor
reads_xor h met = (omega arith, omega arith, omega arith)

reads_or : ReadsWell c_or
reads_or h met = (omega arith, omega arith, omega arith)

reads_and : ReadsWell c_and
reads_and h met = (omega arith, omega arith, omega arith)

reads_j : ReadsWell c_j
reads_j h met = (omega arith, jump_offset h)

reads_beqz : ReadsWell c_beqz
reads_beqz h met = (omega arith, omega arith, branch_offset h)

reads_bnez : ReadsWell c_bnez
reads_bnez h met = (omega arith, omega arith, branch_offset h)

reads_slli : ReadsWell c_slli
reads_slli h met = (omega arith, omega arith, amount h (not_reserved h c_slli met))

reads_lwsp : ReadsWell c_lwsp
reads_lwsp h met = (omega arith, omega arith, lwsp_offset h)

reads_jr : ReadsWell c_jr
reads_jr h met = (omega arith, omega arith, zero_immediate)

reads_mv : ReadsWell c_mv
reads_mv h met = (omega arith, omega arith, omega arith)

reads_ebreak : ReadsWell c_ebreak
reads_ebreak h met = tt

reads_jalr : ReadsWell c_jalr
reads_jalr h met = (omega arith, omega arith, zero_immediate)

reads_add : ReadsWell c_add
reads_add h met = (omega arith, omega arith, omega arith)

reads_swsp : ReadsWell c_swsp
reads_swsp h met = (omega arith, omega arith, swsp_offset h)

-- row by row, in the order of the list
each_row : All ReadsWell compressed_rows
unfolding compressed_rows
each_row = All-from_recursion ReadsWell compressed_rows
    (reads_addi4spn ⨾ reads_lw ⨾ reads_sw
    ⨾ reads_addi ⨾ reads_jal ⨾ reads_li ⨾ reads_addi16sp ⨾ reads_lui
    ⨾ reads_srli ⨾ reads_srai ⨾ reads_andi ⨾ reads_sub ⨾ reads_xor ⨾ reads_or ⨾ reads_and
    ⨾ reads_j ⨾ reads_beqz ⨾ reads_bnez
    ⨾ reads_slli ⨾ reads_lwsp ⨾ reads_jr ⨾ reads_mv ⨾ reads_ebreak ⨾ reads_jalr ⨾ reads_add ⨾ reads_swsp ⨾ tt)

pub IsEncodable-expansion_of : (h : ℕ) (i : Instr) → expansion_of h ≡ Some i → IsEncodable i
IsEncodable-expansion_of h i e =
    let x = Expands-from_expansion h i e in
    rw (← x.instruction) (All-contains ReadsWell compressed_rows x.row each_row x.listed h x.met)

pub found_halfword : (h : ℕ) (r : Option Instr) → r ≡ expansion_of h → IsFound IsEncodable (expansion_of h) r
found_halfword h r e = found IsEncodable (expansion_of h) r (IsEncodable-expansion_of h) e
