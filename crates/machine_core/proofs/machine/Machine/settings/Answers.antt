-- The settings read are those of the machine as contracts see it.
use Rattle.std.proofs.Common.{ap}
use Rattle.machine_core.specs.Machine.{MachineState}
use Rattle.machine_core.proofs.machine.Machine.settings.Goals as goal

pub returns-clause-value : goal.returns-clause-value
returns-clause-value g c = ap (λ (m : MachineState). m.settings) c.self.view_is
