-- The requests of the nodes are added, node by node.
use Rattle.std.proofs.Common.{◌≡◌, ◌+◌, ◌<◌, ℕ, List, length, take, arith, ap, sym, ◌∙◌}
use Rattle.std.specs.Prelude.{All, sum_by}
use Rattle.std.proofs.lemmas.List.{length-map, length-take-le, take_all, take-map}
use Rattle.std.proofs.lemmas.List.Elements.{All-same, All-take}
use Rattle.std.proofs.lemmas.List.Sums.{sum_by_push}
use Rattle.bsp_requests.specs.Requests.{Requests}
use Rattle.node_core.specs.Node.{PreparedNode}
use Rattle.bsp_exchange.specs.Exchange.{states}
use Rattle.bsp_exchange.specs.Parts.{target_of}
use Rattle.bsp_exchange.proofs.Tallies.{states-more, targets_named}
use Rattle.bsp_profile.specs.Tally.{IsNodeAmong, added, added_by}
use Rattle.bsp_profile.proofs.Added.{nodes-le, among_at}
use Rattle.bsp_profile.proofs.tally.add_nodes.Goals as goal

pub loop-node-init : goal.loop-node-init
loop-node-init g c = λ k within. omega (arith, c.requires.empty k within)

pub add_requests-requires-clause-caller : goal.add_requests-requires-clause-caller
add_requests-requires-clause-caller g c =
    let here = among_at c.args.count c.args.nodes.now c.loop-node.node-index c.node-item.result c.requires.nodes c.loop-node-test.true
    c.node-item.is in
    omega (arith, c.rank.ensures, here.nprocs, here.hart.ranked)

pub add_requests-requires-clause-targets : goal.add_requests-requires-clause-targets
add_requests-requires-clause-targets g c =
    let n = c.node-item.result.node in
    let here = among_at c.args.count c.args.nodes.now c.loop-node.node-index c.node-item.result c.requires.nodes c.loop-node-test.true
    c.node-item.is in
    All-same (λ r. target_of r < c.args.count) c.requests.result.now.requests n.hart.communication.requests.requests
    (ap (λ (r : Requests). r.requests) c.requests.ensures.value)
    (targets_named n c.args.count here.hart (omega (arith, here.nprocs)))

pub add_requests-requires-clause-room : goal.add_requests-requires-clause-room
add_requests-requires-clause-room g c = λ k within.
    let i = c.loop-node.node-index in
    let ps = c.args.nodes.now in
    let ns = states (take i ps) in
    let few : All (IsNodeAmong c.args.count) ns = All-same (IsNodeAmong c.args.count) ns (take i (states ps))
    (sym (take-map (λ (q : PreparedNode). q.node) i ps)) (All-take (IsNodeAmong c.args.count) i (states ps) c.requires.nodes) in
    let short : length (take i ps) ≡ i = length-take-le i ps (omega (arith, c.loop-node-test.true)) in
    let same : length ns ≡ length (take i ps) = length-map (take i ps) (λ (q : PreparedNode). q.node) in
    omega (
      arith,
      nodes-le c.args.count k ns few,
      c.loop-node.invariant k (omega (arith, c.loop-node.auto.cells)),
      short,
      same,
      c.loop-node-test.true,
      c.requires.few,
      c.requires.long,
    )

pub loop-node-preserved : goal.loop-node-preserved
loop-node-preserved g c = λ k within.
    let i = c.loop-node.node-index in
    let ps = c.args.nodes.now in
    let p = c.node-item.result in
    let more : sum_by (added_by c.args.count k) (states (take (i + 1) ps))
    ≡ sum_by (added_by c.args.count k) (states (take i ps)) + added_by c.args.count k p.node =
    ap (sum_by (added_by c.args.count k)) (states-more ps i p c.loop-node-test.true c.node-item.is)
    ∙ sum_by_push (added_by c.args.count k) (states (take i ps)) p.node in
    let own : sum_by (added c.args.count k c.rank.result) c.requests.result.now.requests ≡ added_by c.args.count k p.node =
    ap (λ (caller : ℕ). sum_by (added c.args.count k caller) c.requests.result.now.requests) c.rank.ensures
    ∙ ap (λ (r : Requests). sum_by (added c.args.count k p.node.hart.rank) r.requests) c.requests.ensures.value in
    omega (arith, more, own, c.loop-node.invariant k within, c.add_requests.ensures k (omega (arith, c.loop-node.auto.cells)))

pub returns-clause-cells : goal.returns-clause-cells
returns-clause-cells g c = λ k within.
    c.loop-node.invariant k within
    ∙ ap (λ (ps : List PreparedNode). sum_by (added_by c.args.count k) (states ps))
    (take_all c.loop-node.node-index c.args.nodes.now c.loop-node-test.false)

pub returns-clause-bounded : goal.returns-clause-bounded
returns-clause-bounded g c = λ k within.
    let ps = c.args.nodes.now in
    let all = c.loop-node.invariant k (omega (arith, c.loop-node.auto.cells))
    ∙ ap (λ (qs : List PreparedNode). sum_by (added_by c.args.count k) (states qs))
    (take_all c.loop-node.node-index ps c.loop-node-test.false) in
    let same : length (states ps) ≡ length ps = length-map ps (λ (q : PreparedNode). q.node) in
    omega (arith, nodes-le c.args.count k (states ps) c.requires.nodes, all, same, c.requires.few, c.requires.long)
