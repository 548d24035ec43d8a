-- The ticks lent are those of the machine as contracts see it.
use Rattle.std.proofs.Common.{ap, ◌∙◌}
use Rattle.machine_core.specs.Machine.{MachineState}
use Rattle.machine_core.proofs.machine.Machine.started.Goals as goal

pub returns : goal.returns
returns g c = c.as_slice.ensures.value ∙ ap (λ (m : MachineState). m.started) c.self.view_is
