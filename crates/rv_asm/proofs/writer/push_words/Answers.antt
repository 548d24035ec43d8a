-- Each target adds the bytes of its word, where its label has an address; one that has none is the fault.
use Rattle.std.proofs.Common.{sym, ◌∙◌}
use Rattle.asm_syntax.specs.Operands.{IsTarget}
use Rattle.asm_syntax.specs.Views.{target_value}
use Rattle.rv_asm.specs.Labels.{symbols}
use Rattle.rv_asm.proofs.Words.{All_of_map, words_more, defined_more}
use Rattle.rv_asm.proofs.writer.push_words.Goals as goal

pub value_of-requires : goal.value_of-requires
value_of-requires g c =
    All_of_map IsTarget target_value c.args.targets.now c.requires c.loop-target.target-index _ c.loop-target-test.true

pub loop-target-preserved : goal.loop-target-preserved
loop-target-preserved g c =
    let known = symbols c.args.labels.now in
    let targets = c.args.targets.now in
    let i = c.loop-target.target-index in
    let value = sym c.in-Some.is ∙ c.value_of.ensures in
    record {
      written =
          words_more known c.args.bytes.now.items c.loop-target.bytes.items c.extend_from_slice.new.self.items c.to_le_bytes.result targets
          i c.in-Some.value _ c.loop-target-test.true value c.loop-target.invariant.written c.in_ok-extend_from_slice.ensures.items
          c.to_le_bytes.ensures;
      defined = defined_more known targets i c.in-Some.value _ c.loop-target-test.true value c.loop-target.invariant.defined;
    }
