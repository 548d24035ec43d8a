-- A node in the state `Running` runs.
use Rattle.node_core.proofs.state.State.is_running.Goals as goal

pub returns-in-Running : goal.returns-in-Running
returns-in-Running c = rw c.in-Running.is
