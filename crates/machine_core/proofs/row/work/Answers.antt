-- One node more counts into the most ticks so far; past the last node that is the most of all.
use Rattle.std.proofs.Common.{◌≡◌, ◌+◌, ◌-◌, ◌<◌, max, drop, length, get_or, sym, ap, ◌∙◌, arith}
use Rattle.machine_core.proofs.States.{get_or_default, ord_max-max, most_from, most_from-more, most_from-all}
use Rattle.machine_core.proofs.row.work.Goals as goal

pub loop-rank-preserved : goal.loop-rank-preserved
loop-rank-preserved g c =
    let ps = c.args.nodes.now in
    let started = c.args.started.now in
    let i = c.loop-rank.rank in
    let s = get_or started i 0 in
    let within : i < length started = omega (arith, c.requires) in
    let next =
    most_from-more c.loop-rank.most ps started i c.index-nodes-rank.result s (omega arith) c.index-nodes-rank.is within
    (get_or_default started i within) in
    let most : c.max-most.result ≡ max c.loop-rank.most (c.index-nodes-rank.result.node.ticks - s) =
    c.max-most.ensures ∙ ord_max-max c.loop-rank.most c.saturating_sub.result
    ∙ ap (max c.loop-rank.most) (c.saturating_sub.ensures ∙ ap (λ t. t - s) c.ticks.ensures.value) in
    ap (λ m. most_from m (drop (i + 1) ps) (drop (i + 1) started)) most ∙ sym next ∙ c.loop-rank.invariant

pub returns : goal.returns
returns g c =
    sym (most_from-all c.loop-rank.most c.args.nodes.now c.args.started.now c.loop-rank.rank c.loop-rank-test.false) ∙ c.loop-rank.invariant
