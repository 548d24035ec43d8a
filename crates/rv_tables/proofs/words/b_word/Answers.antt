-- The row's value, the registers and the offset's bits make the only word of a B-type row with these operands.
use Rattle.std.proofs.Common.{◌∙◌, arith, rules}
use Rattle.std.proofs.lemmas.Int.{to_z-of_z}
use Rattle.rv_tables.proofs.BranchWord.{IsOnlyWord-b}
use Rattle.rv_tables.proofs.words.b_word.Goals as goal

pub returns : goal.returns
returns c = record {
  encodable = search rules;
  word = IsOnlyWord-b c.args.value c.args.rs1 c.args.rs2 c.b_bits.result _ c.args.imm c.requires (omega arith) (omega arith)
      (c.b_bits.ensures.offset ∙ to_z-of_z _ _ c.ranges.imm) c.b_bits.ensures.alone (omega arith);
}
