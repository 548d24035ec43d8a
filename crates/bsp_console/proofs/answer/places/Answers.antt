-- The text has a line of each node, in rank order: the nodes that were read are those of the machine.
use Rattle.std.proofs.Common.{◌≡◌, ◌∙◌, ℕ, List, ◌++◌, map, ap}
use Rattle.std.specs.List.{flat_map}
use Rattle.node_core.specs.Node.{NodeState, PreparedNode}
use Rattle.bsp_console.specs.Talk.{place_line}
use Rattle.bsp_console.proofs.answer.places.Goals as goal

pub returns : goal.returns
returns g c =
    let m = c.args.machine.now in
    let states : List NodeState = map (λ (p : PreparedNode). p.node) c.nodes.result.now in
    let told = c.in_ok-add_places.ensures {u = tt} in
    let lines = told ∙ ap (λ (bs : List ℕ). bs ++ flat_map (place_line m) states) c.new-text.ensures.bytes
    ∙ ap (flat_map (place_line m)) c.nodes.ensures in
    (rw (c.done.ensures.told, c.into_bytes.ensures.value) lines, c.done.ensures.refused)
