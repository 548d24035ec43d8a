-- The text of the state `Exhausted` is the one of the definition.
use Rattle.node_core.proofs.state.StateDisplay.fmt.Goals as goal

pub returns-in-Exhausted-clause-writes : goal.returns-in-Exhausted-clause-writes
returns-in-Exhausted-clause-writes g c = rw c.in-Exhausted.is c.write_str-in-Exhausted.ensures.writes
