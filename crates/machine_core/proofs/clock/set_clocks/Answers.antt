-- One clock more that is set makes the nodes with set clocks one more; past the last place they are all nodes.
use Rattle.std.proofs.Common.{◌≤◌, ◌++◌, List, length, map, drop, set, arith, refl, ap, ◌∙◌, append-nil}
use Rattle.std.proofs.lemmas.List.{drop_all, take_all}
use Rattle.std.proofs.lemmas.Option.{get_or_from_slice_get}
use Rattle.std.specs.Prelude.{slice_get}
use Rattle.node_core.specs.Node.{PreparedNode}
use Rattle.bsp_exchange.specs.Exchange.{states}
use Rattle.bsp_exchange.proofs.LandedRow.{next_unchanged, one_more_changed, some_at}
use Rattle.machine_core.proofs.Clocks.{clock_set, states-clock_set}
use Rattle.machine_core.proofs.clock.set_clocks.Goals as goal

pub loop-rank-init : goal.loop-rank-init
loop-rank-init g c = refl

pub loop-rank-preserved : goal.loop-rank-preserved
loop-rank-preserved g c =
    let i = c.loop-rank.rank in
    let nodes = c.args.nodes.now in
    let change = clock_set c.args.closed in
    let (p, is) = some_at nodes i (omega (arith, c.loop-rank-test.true)) in
    let here = ap (λ (ns : List PreparedNode). slice_get ns i) c.loop-rank.invariant ∙ next_unchanged change i nodes ∙ is in
    ap (set c.loop-rank.nodes i)
    (c.set_clock.ensures ∙ ap change (get_or_from_slice_get c.loop-rank.nodes i p c.index-nodes-rank.result here))
    ∙ ap (λ (ns : List PreparedNode). set ns i (change p)) c.loop-rank.invariant
    ∙ one_more_changed change i nodes p is

pub returns : goal.returns
returns g c =
    let i = c.loop-rank.rank in
    let nodes = c.args.nodes.now in
    let change = clock_set c.args.closed in
    let past : length nodes ≤ i = omega (arith, c.loop-rank-test.false) in
    ap states
    (c.loop-rank.invariant
    ∙ ap (λ (ps : List PreparedNode). map change ps ++ drop i nodes) (take_all i nodes past)
    ∙ ap (λ (ps : List PreparedNode). map change nodes ++ ps) (drop_all i nodes past)
    ∙ append-nil (map change nodes))
    ∙ states-clock_set c.args.closed nodes
