-- The number read is that of the exchanges of the machine as contracts see it.
use Rattle.std.proofs.Common.{ap}
use Rattle.machine_core.specs.Machine.{MachineState}
use Rattle.machine_core.proofs.machine.Machine.superstep.Goals as goal

pub returns : goal.returns
returns g c = ap (λ (m : MachineState). m.exchanges) c.self.view_is
