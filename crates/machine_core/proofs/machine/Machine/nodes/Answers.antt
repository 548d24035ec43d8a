-- The row lent has the nodes of the machine as contracts see it.
use Rattle.std.proofs.Common.{ap, ◌∙◌}
use Rattle.bsp_exchange.specs.Exchange.{states}
use Rattle.machine_core.specs.Machine.{MachineState}
use Rattle.machine_core.proofs.machine.Machine.nodes.Goals as goal

pub returns : goal.returns
returns g c = ap states c.as_slice.ensures.value ∙ ap (λ (m : MachineState). m.nodes) c.self.view_is
