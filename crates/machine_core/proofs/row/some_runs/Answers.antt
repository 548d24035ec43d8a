-- A search for a running node finds one where the states of the row have one.
use Rattle.std.proofs.Common.{◌∙◌, rules, tests}
use Rattle.std.proofs.lemmas.Iterator.{YieldsList-from_slice}
use Rattle.std.proofs.lemmas.Iterator.Search.{any_from_yields_List}
use Rattle.node_core.specs.Node.{PreparedNode}
use Rattle.machine_core.specs.Events.{runs}
use Rattle.machine_core.proofs.States.{some_runs-states}
use Rattle.machine_core.proofs.row.some_runs.Goals as goal

pub returns : goal.returns
returns g c =
    any_from_yields_List (λ (p : PreparedNode). runs p.node) _ _ c.any.result c.any.ensures.ran
    (YieldsList-from_slice c.args.nodes.now cc) (λ x b q k. search (rules, tests))
    ∙ some_runs-states c.args.nodes.now
