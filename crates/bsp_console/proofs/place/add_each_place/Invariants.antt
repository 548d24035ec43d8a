-- The text and the nodes that are left are the text before and all nodes.
use Rattle.std.proofs.Common.{◌≡◌, ◌++◌, drop, string_bytes}
use Rattle.std.specs.List.{flat_map}
use Rattle.node_core.specs.Node.{PreparedNode}
use Rattle.bsp_console.specs.Talk.{place_line}
use Rattle.bsp_console.proofs.place.add_each_place.Given as goal

abbrev pub invariant-loop-node : goal.invariant-loop-node
invariant-loop-node g l =
    string_bytes l.text ++ flat_map (λ (p : PreparedNode). place_line l.machine p.node) (drop l.node-index l.nodes)
    ≡ string_bytes l.initial.text ++ flat_map (λ (p : PreparedNode). place_line l.machine p.node) l.nodes
