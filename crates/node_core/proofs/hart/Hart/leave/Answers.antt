-- The answer is the state that was given; a search finds it.
use Rattle.std.proofs.Common.{rules}
use Rattle.node_core.proofs.hart.Hart.leave.Goals as goal

pub returns-clause-state : goal.returns-clause-state
returns-clause-state g c = search rules
