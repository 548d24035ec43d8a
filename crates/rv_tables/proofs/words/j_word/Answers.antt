-- The row's value, the register and the offset's bits make the only word of a J-type row with these operands.
use Rattle.std.proofs.Common.{◌∙◌, arith, rules}
use Rattle.std.proofs.lemmas.Int.{to_z-of_z}
use Rattle.rv_tables.proofs.JumpWord.{IsOnlyWord-j}
use Rattle.rv_tables.proofs.words.j_word.Goals as goal

pub returns : goal.returns
returns c = record {
  encodable = search rules;
  word =
      IsOnlyWord-j c.args.value c.args.rd c.j_bits.result _ c.args.imm c.requires (omega arith)
      (c.j_bits.ensures.offset ∙ to_z-of_z _ _ c.ranges.imm) c.j_bits.ensures.alone (omega arith);
}
