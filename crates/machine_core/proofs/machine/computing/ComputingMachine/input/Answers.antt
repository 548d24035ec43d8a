-- The input lent is that of the machine as contracts see it.
use Rattle.std.proofs.Common.{ap, ◌∙◌}
use Rattle.machine_core.specs.Machine.{MachineState}
use Rattle.machine_core.proofs.machine.computing.ComputingMachine.input.Goals as goal

pub returns : goal.returns
returns g c = c.as_slice.ensures ∙ ap (λ (m : MachineState). m.input) c.self.view_is
