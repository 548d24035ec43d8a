-- Each pass adds one label, so that the labels with those that are left stay the same, and so does a duplicate among them.
use Rattle.std.proofs.Common.{◌∙◌}
use Rattle.rv_asm.specs.Labels.{symbols}
use Rattle.rv_asm.proofs.LabelSteps.{known_from, judged_from}
use Rattle.rv_asm.proofs.labels.Labels.define_all.Goals as goal

pub loop-name-preserved : goal.loop-name-preserved
loop-name-preserved g c =
    let s = symbols c.loop-name.self in
    let t = symbols c.define.new.self in
    let h = c.in_ok-define.ensures.ok in
    record {
      known =
          λ q. c.loop-name.invariant.known q
          ∙ known_from s t c.args.names.now c.loop-name.name-index _ c.args.address c.loop-name-test.true h q;
      judged =
          c.loop-name.invariant.judged
          ∙ judged_from s t c.args.names.now c.loop-name.name-index _ c.args.address c.loop-name-test.true h c.in_ok-define.ensures.absent;
    }
