-- The lowest node that runs is that of the states.
use Rattle.std.proofs.Common.{ℕ, List, Some, None, sym, ap, ◌∙◌}
use Rattle.std.specs.Prelude.{Option}
use Rattle.std.specs.Option.{option_map_or}
use Rattle.node_core.specs.Node.{NodeState, is_running}
use Rattle.machine_core.specs.Turn.{lowest}
use Rattle.machine_core.proofs.Closings.{lowest-is}
use Rattle.bsp_debug.proofs.over.next_rank.Goals as goal

abbrev rank_of : Option NodeState → ℕ
rank_of o = option_map_or (λ (n : NodeState). n.hart.rank) o 0

abbrev rank_in : List NodeState → ℕ
rank_in nodes = rank_of (lowest is_running nodes)

pub returns-in-Some : goal.returns-in-Some
returns-in-Some g c =
    let node = c.in-Some.node.now in
    c.rank.ensures
    ∙ sym (ap rank_in (sym c.nodes.ensures) ∙ ap rank_of (lowest-is c.nodes.result.now is_running (Some node) c.in-Some.ensures))

pub returns-in-None : goal.returns-in-None
returns-in-None g c =
    sym (ap rank_in (sym c.nodes.ensures) ∙ ap rank_of (lowest-is c.nodes.result.now is_running None c.in-None.ensures))
