-- The immediates of the code are those of the rows, as signed numbers.
use Rattle.std.proofs.Common.{◌∙◌, w32, arith, rules}
use Rattle.std.proofs.lemmas.Int.{to_z-of_z}
use Rattle.rv_tables.specs.Compressed.{compressed_rows}
use Rattle.rv_tables.proofs.CompressedLookup.{expansion_at, by_fields}
use Rattle.rv_tables.proofs.compressed.quadrant_1.Goals as goal

pub returns-in-0 : goal.returns-in-0
unfolding expansion_at compressed_rows
returns-in-0 c =
    let imm = to_z-of_z w32 c.small_immediate.result (search rules) ∙ c.small_immediate.ensures in
    rw imm (grind (arith, by_fields))

pub returns-in-1 : goal.returns-in-1
unfolding expansion_at compressed_rows
returns-in-1 c =
    let imm = to_z-of_z w32 c.jump_offset.result (search rules) ∙ c.jump_offset.ensures in
    rw imm (grind (arith, by_fields))

pub returns-in-2 : goal.returns-in-2
unfolding expansion_at compressed_rows
returns-in-2 c =
    let imm = to_z-of_z w32 c.small_immediate-in-2.result (search rules) ∙ c.small_immediate-in-2.ensures in
    rw imm (grind (arith, by_fields))

pub returns-in-5 : goal.returns-in-5
unfolding expansion_at compressed_rows
returns-in-5 c =
    let imm = to_z-of_z w32 c.jump_offset-in-5.result (search rules) ∙ c.jump_offset-in-5.ensures in
    rw imm (grind (arith, by_fields))

pub returns-in-6 : goal.returns-in-6
unfolding expansion_at compressed_rows
returns-in-6 c =
    let imm = to_z-of_z w32 c.branch_offset.result (search rules) ∙ c.branch_offset.ensures in
    rw imm (grind (arith, by_fields))

pub returns-in_default : goal.returns-in_default
unfolding expansion_at compressed_rows
returns-in_default c =
    let imm = to_z-of_z w32 c.branch_offset-in_default.result (search rules) ∙ c.branch_offset-in_default.ensures in
    rw imm (grind (arith, by_fields))
