-- Two nodes that look alike make two rows that look alike one longer, and at the end these are the whole rows.
use Rattle.std.proofs.Common.{◌<◌, length, refl, arith}
use Rattle.std.proofs.lemmas.Option.{slice_get_read}
use Rattle.same_nodes.proofs.Rows.{rows-all, rows-more}
use Rattle.same_nodes.proofs.are_same_rows.Goals as goal

pub loop-place-preserved : goal.loop-place-preserved
loop-place-preserved g c =
    let nodes = c.args.nodes.now in
    let others = c.args.others.now in
    let place = c.loop-place.place in
    let within : place < length nodes = omega (arith, c.loop-place-test.true) in
    rows-more nodes others place c.index-nodes-place.result c.index-others-place.result
    (slice_get_read nodes (length nodes) place c.index-nodes-place.result refl within c.index-nodes-place.is)
    (slice_get_read others (length others) place c.index-others-place.result refl (omega (arith, within, c.if-nodes-others.false))
    c.index-others-place.is)
    (c.in_ok-are_same.ensures {u = tt} c.if-not-branch.false) c.loop-place.invariant

pub returns : goal.returns
returns g c = λ holds.
    rows-all c.args.nodes.now c.args.others.now c.loop-place.place (omega (arith, c.if-nodes-others.false))
    (omega (arith, c.loop-place-test.false)) c.loop-place.invariant
