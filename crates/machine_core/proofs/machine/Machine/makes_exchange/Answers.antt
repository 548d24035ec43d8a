-- Whether its row makes the exchange is asked of the nodes as contracts see them.
use Rattle.std.proofs.Common.{List, ap, ◌∙◌}
use Rattle.bsp_exchange.specs.Exchange.{states}
use Rattle.node_core.specs.Node.{PreparedNode}
use Rattle.machine_core.specs.Machine.{MachineState}
use Rattle.machine_core.specs.Turn.{makes_exchange}
use Rattle.machine_core.proofs.machine.Machine.makes_exchange.Goals as goal

pub returns : goal.returns
returns g c =
    c.makes_exchange.ensures
    ∙ ap (λ (ps : List PreparedNode). makes_exchange (states ps)) c.deref.ensures.value
    ∙ ap (λ (m : MachineState). makes_exchange m.nodes) c.self.view_is
