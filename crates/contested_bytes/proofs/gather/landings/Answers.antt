-- Each node's requests lie inside, and what they land comes behind what was gathered.
use Rattle.std.proofs.Common.{length, sym, refl, ◌∙◌}
use Rattle.std.proofs.lemmas.Option.{slice_get_read}
use Rattle.bsp_exchange.specs.Exchange.{states}
use Rattle.contested_bytes.proofs.Requested.{node_inside, nodes_inside, gathered-node, gathered-nodes}
use Rattle.contested_bytes.proofs.gather.landings.Goals as goal

pub add_landings-requires : goal.add_landings-requires
add_landings-requires g c = record {
  inside = node_inside (states c.args.nodes.now) c.args.nodes.now c.loop-node.node-index c.node-item.result
      (slice_get_read c.args.nodes.now (length c.args.nodes.now) c.loop-node.node-index c.node-item.result refl c.loop-node-test.true
      c.node-item.is) c.loop-node.invariant.inside;
}

pub loop-node-preserved : goal.loop-node-preserved
loop-node-preserved g c =
    let nodes = c.args.nodes.now in
    let i = c.loop-node.node-index in
    let p = c.node-item.result in
    record {
      inside =
          nodes_inside (states nodes) nodes i p (slice_get_read nodes (length nodes) i p refl c.loop-node-test.true c.node-item.is)
          c.loop-node.invariant.inside;
      same =
          gathered-node (states nodes) nodes i p c.loop-node.all.items c.add_landings.new.all.items c.loop-node-test.true c.node-item.is
          c.in_ok-add_landings.ensures ∙ c.loop-node.invariant.same;
    }

pub returns : goal.returns
returns g c =
    sym (gathered-nodes (states c.args.nodes.now) c.args.nodes.now c.loop-node.node-index c.loop-node.all.items c.loop-node-test.false)
    ∙ c.loop-node.invariant.same
