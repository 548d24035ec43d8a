-- The text, the group that is open and the nodes that are left make all groups.
use Rattle.std.proofs.Common.{◌≡◌, ◌++◌, drop, string_bytes}
use Rattle.std.specs.Prelude.{map}
use Rattle.std.specs.List.{flat_map}
use Rattle.node_core.specs.Node.{PreparedNode}
use Rattle.debug_lines.specs.Kept.{group_text, groups_of, joined}
use Rattle.debug_lines.specs.KeptViews.{group_value}
use Rattle.debug_lines.proofs.kept.add_groups.Given as goal

abbrev pub invariant-loop-node : goal.invariant-loop-node
invariant-loop-node g l =
    string_bytes l.text
    ++ flat_map group_text (joined (group_value l.group) (groups_of (map (λ (p : PreparedNode). p.node) (drop l.node-index l.others))))
    ≡ string_bytes l.initial.text ++ flat_map group_text (groups_of (map (λ (p : PreparedNode). p.node) l.nodes))
