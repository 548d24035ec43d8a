-- The iterator's `find` yields the first node of the list with another next tag size than `first`.
use Rattle.std.proofs.Common.{rules, not}
use Rattle.std.proofs.lemmas.Iterator.{YieldsList-from_slice}
use Rattle.std.proofs.lemmas.Iterator.Search.{find_from_yields_List}
use Rattle.node_core.specs.Node.{PreparedNode}
use Rattle.bsp_exchange.specs.Faults.{have_same_tag_size}
use Rattle.bsp_exchange.proofs.checks.first_of_other_tag_size.Goals as goal

pub returns : goal.returns
returns g c =
    find_from_yields_List (λ (p : PreparedNode). not (have_same_tag_size c.args.first.now.node p.node)) _ _ c.find.result c.find.ensures.ran
    (YieldsList-from_slice c.args.nodes.now cc) (λ x b q k. (search rules, cc))
