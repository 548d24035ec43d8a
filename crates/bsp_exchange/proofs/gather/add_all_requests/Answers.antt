-- Adding the requests of one more node keeps the invariant, and all loads have room for them; past the last node every request is added.
use Rattle.std.proofs.Common.{◌≡◌, ◌+◌, ◌*◌, ◌^◌, List, length, take, drop, arith, ap, sym, refl, ◌∙◌, None}
use Rattle.std.proofs.lemmas.List.{length-map, length-take-le, take_all}
use Rattle.std.proofs.lemmas.List.Elements.{All-same}
use Rattle.node_core.specs.Node.{NodeState, PreparedNode}
use Rattle.bsp_exchange.specs.Exchange.{states}
use Rattle.bsp_exchange.specs.Issued.{issued, issued_by}
use Rattle.bsp_exchange.specs.Arrivals.{Received, with_issued}
use Rattle.bsp_exchange.specs.Loads.{with_transfers, IsWithin}
use Rattle.bsp_exchange.specs.Traffic.{transfers}
use Rattle.bsp_exchange.proofs.Finds.{no_fault_here, no_node_left}
use Rattle.bsp_exchange.proofs.Gathered.{all_at, state_here, length-states, node_gathered, nodes_gathered, length-with_issued, sound_more}
use Rattle.bsp_exchange.proofs.Gathered.{all_sound}
use Rattle.bsp_exchange.proofs.Loads.{within_at_most}
use Rattle.bsp_exchange.proofs.Tallies.{next_node, sound_taken, taken_fit, loads_bounded, loads_limited}
use Rattle.bsp_exchange.proofs.gather.add_all_requests.Goals as goal

pub loop-node-init : goal.loop-node-init
loop-node-init g c =
    record { size = c.requires.parts; inside = refl; same = refl; sound = λ k n none is. absurd (omega arith); added = refl }

pub add_requests-requires-clause-count : goal.add_requests-requires-clause-count
add_requests-requires-clause-count g c =
    let nodes = states c.args.nodes.now in
    all_at (λ (n : NodeState). n.hart.nprocs ≡ length nodes) nodes c.loop-node.node-index c.node-item.result.node c.requires.row.counts
    (state_here c.args.nodes.now c.loop-node.node-index c.node-item.result c.loop-node-test.true c.node-item.is)
    ∙ length-states c.args.nodes.now

pub loop-node-preserved : goal.loop-node-preserved
loop-node-preserved g c =
    let nodes = states c.args.nodes.now in
    let i = c.loop-node.node-index in
    let n = c.node-item.result.node in
    let new = c.in_ok-add_requests.ensures.ok in
    record {
      size = ap length new ∙ length-with_issued nodes c.loop-node.parts (issued_by n) ∙ c.loop-node.invariant.size;
      inside =
          sym (no_fault_here nodes c.args.nodes.now i c.node-item.result None c.loop-node-test.true c.node-item.is
          (sym c.in_ok-add_requests.ensures.inside) refl)
          ∙ c.loop-node.invariant.inside;
      same =
          ap (λ (ps : List Received). with_issued nodes ps (issued (drop (i + 1) nodes))) new
          ∙ sym (node_gathered nodes c.loop-node.parts c.args.nodes.now i c.node-item.result c.loop-node-test.true c.node-item.is)
          ∙ c.loop-node.invariant.same;
      sound =
          sound_more nodes i n (state_here c.args.nodes.now i c.node-item.result c.loop-node-test.true c.node-item.is)
          c.in_ok-add_requests.ensures.sound c.loop-node.invariant.sound;
      added =
          next_node c.args.loads.now c.loop-node.loads c.add_requests.new.loads c.args.nodes.now i c.node-item.result n.hart.rank
          n.hart.communication.requests c.loop-node.invariant.added c.loop-node-test.true c.node-item.is refl refl
          c.in_ok-add_requests.ensures.loads;
    }

pub add_requests-requires-clause-room : goal.add_requests-requires-clause-room
add_requests-requires-clause-room g c =
    let i = c.loop-node.node-index in
    let ps = c.args.nodes.now in
    let ns = states (take i ps) in
    let harts = sound_taken ps i c.loop-node.invariant.sound in
    let fit = taken_fit ps i c.requires.row (omega (arith, c.loop-node-test.true)) c.loop-node.invariant.sound in
    let short : length (take i ps) ≡ i = length-take-le i ps (omega (arith, c.loop-node-test.true)) in
    let same : length ns ≡ length (take i ps) = length-map (take i ps) (λ (q : PreparedNode). q.node) in
    All-same (IsWithin (2 ^ 47)) c.loop-node.loads (with_transfers c.args.loads.now (transfers ns)) c.loop-node.invariant.added
    (within_at_most (2 ^ 47) (length ns * 2 ^ 31) (with_transfers c.args.loads.now (transfers ns)) (omega (arith, fit, short, same))
    (loads_limited c.args.loads.now ns c.requires.empty harts))

pub returns-clause-loads : goal.returns-clause-loads
returns-clause-loads g c =
    c.loop-node.invariant.added
    ∙ ap (λ (ps : List PreparedNode). with_transfers c.args.loads.now (transfers (states ps)))
    (take_all c.loop-node.node-index c.args.nodes.now c.loop-node-test.false)

pub returns-clause-bounded : goal.returns-clause-bounded
returns-clause-bounded g c =
    let ps = c.args.nodes.now in
    let whole = take_all c.loop-node.node-index ps c.loop-node-test.false in
    loads_bounded c.args.loads.now c.loop-node.loads ps c.requires.empty c.requires.row
    (all_sound (states ps) c.loop-node.node-index (rw (length-states ps) c.loop-node-test.false) c.loop-node.invariant.sound)
    (c.loop-node.invariant.added ∙ ap (λ (qs : List PreparedNode). with_transfers c.args.loads.now (transfers (states qs))) whole)

pub returns-clause-ok : goal.returns-clause-ok
returns-clause-ok g c =
    sym (nodes_gathered (states c.args.nodes.now) c.loop-node.parts c.args.nodes.now c.loop-node.node-index c.loop-node-test.false)
    ∙ c.loop-node.invariant.same

pub returns-clause-sound : goal.returns-clause-sound
returns-clause-sound g c =
    all_sound (states c.args.nodes.now) c.loop-node.node-index (rw (length-states c.args.nodes.now) c.loop-node-test.false)
    c.loop-node.invariant.sound

pub returns-clause-inside : goal.returns-clause-inside
returns-clause-inside g c =
    sym c.loop-node.invariant.inside ∙ no_node_left (states c.args.nodes.now) c.args.nodes.now c.loop-node.node-index c.loop-node-test.false
