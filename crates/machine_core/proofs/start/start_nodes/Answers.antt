-- Each node is a share of the first one with its own rank, and these are the nodes of a machine at its start.
use Rattle.std.proofs.Common.{◌≡◌, [], ◌∷◌, ◌++◌, map, ap, ◌∙◌, arith}
use Rattle.std.specs.List.{range_with_len}
use Rattle.node_core.specs.Node.{NodeState, PreparedNode, with_rank}
use Rattle.machine_core.specs.Machine.{node_at_start}
use Rattle.machine_core.proofs.Starts.{settings_fault-nodes, length-first, first_of, first_more}
use Rattle.machine_core.proofs.start.start_nodes.Goals as goal

pub index-requires : goal.index-requires
index-requires g c =
    let made = length-first c.args.image.now c.args.settings.now c.loop-rank.nodes.items c.loop-rank.rank c.loop-rank.invariant.made in
    omega (arith, made, c.loop-rank.nodes.ok.0, c.loop-rank.invariant.some)

pub share-requires : goal.share-requires
share-requires g c =
    let made = length-first c.args.image.now c.args.settings.now c.loop-rank.nodes.items c.loop-rank.rank c.loop-rank.invariant.made in
    let first =
    first_of c.args.image.now c.args.settings.now c.loop-rank.nodes.items c.loop-rank.rank c.index.result.now
    (omega (arith, c.loop-rank.invariant.some)) c.loop-rank.invariant.made
    (omega (arith, made, c.loop-rank.invariant.some)) c.index.ensures in
    rw (ap (λ (n : NodeState). n.hart.nprocs) first) c.loop-rank-test.true

pub loop-rank-preserved : goal.loop-rank-preserved
loop-rank-preserved g c =
    let image = c.args.image.now in
    let settings = c.args.settings.now in
    let nodes = c.loop-rank.nodes.items in
    let rank = c.loop-rank.rank in
    let made = length-first image settings nodes rank c.loop-rank.invariant.made in
    let first =
    first_of image settings nodes rank c.index.result.now (omega (arith, c.loop-rank.invariant.some)) c.loop-rank.invariant.made
    (omega (arith, made, c.loop-rank.invariant.some)) c.index.ensures in
    let more : c.push-in-loop-rank.new.self.items ≡ nodes ++ c.in_ok-node.node ∷ [] = grind arith in
    let next = ap (λ (p : PreparedNode). p.node) c.in_ok-node.ensures ∙ ap (with_rank rank) first in
    record {
      some = omega arith;
      made =
          first_more image settings nodes c.push-in-loop-rank.new.self.items rank c.in_ok-node.node c.loop-rank.invariant.made more next;
    }

pub returns-clause-ok : goal.returns-clause-ok
returns-clause-ok g c =
    let some = settings_fault-nodes c.args.settings.now c.requires in
    let all : c.loop-rank.rank ≡ c.args.settings.now.nodes = omega (arith, c.loop-rank-test.false, c.loop-rank.auto.rank-end some) in
    c.loop-rank.invariant.made ∙ ap (λ k. map (node_at_start c.args.image.now c.args.settings.now) (range_with_len 0 k)) all
