-- What the step answers of its event, it answers of the one that was given.
use Rattle.machine_core.proofs.machine.Machine.apply.Goals as goal

pub returns-in-Step : goal.returns-in-Step
returns-in-Step g c = rw c.in-Step.is c.step.ensures
