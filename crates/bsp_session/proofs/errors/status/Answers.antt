-- A run that ended in a fault has the status of the definition; a search finds it from the arm.
use Rattle.std.proofs.Common.{rules}
use Rattle.bsp_session.proofs.errors.status.Goals as goal

pub returns-in-Faulted : goal.returns-in-Faulted
returns-in-Faulted c = search rules
