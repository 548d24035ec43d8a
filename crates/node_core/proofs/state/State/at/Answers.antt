-- A node that would run with no tick left is exhausted.
use Rattle.std.proofs.Common.{arith}
use Rattle.std.proofs.lemmas.Grind.{common_steps}
use Rattle.node_core.proofs.state.State.at.Goals as goal

pub returns-then-ticks-limit : goal.returns-then-ticks-limit
returns-then-ticks-limit c = grind (arith, common_steps, c.is_running.ensures)
