-- What is left of the machine is as sound as it was, since its row is kept as a snapshot.
use Rattle.std.proofs.Common.{rules}
use Rattle.machine_core.proofs.machine.Machine.lend.Goals as goal

pub invariant_of-computing : goal.invariant_of-computing
invariant_of-computing g c = search rules
