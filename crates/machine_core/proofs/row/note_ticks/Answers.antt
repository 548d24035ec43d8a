-- One tick more that is noted is that of the node at the place; past the last place all are noted.
use Rattle.std.proofs.Common.{ap, ◌∙◌, arith}
use Rattle.std.specs.Prelude.{slice_set}
use Rattle.machine_core.proofs.States.{noted-more, noted-all}
use Rattle.machine_core.proofs.row.note_ticks.Goals as goal

pub loop-rank-preserved : goal.loop-rank-preserved
loop-rank-preserved g c =
    ap (λ t. slice_set c.loop-rank.started c.loop-rank.rank t) c.ticks.ensures.value
    ∙ noted-more c.args.nodes.now c.args.started.now c.loop-rank.started c.loop-rank.rank c.index-nodes-rank.result c.requires
    (omega arith) c.index-nodes-rank.is c.loop-rank.invariant

pub returns : goal.returns
returns g c = c.loop-rank.invariant ∙ noted-all c.args.nodes.now c.args.started.now c.loop-rank.rank c.requires c.loop-rank-test.false
