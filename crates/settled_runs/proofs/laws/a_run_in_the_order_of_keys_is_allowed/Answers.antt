-- The machine's own order is allowed in each superstep.
use Rattle.settled_runs.proofs.Runs.{run-allowed}
use Rattle.settled_runs.proofs.laws.a_run_in_the_order_of_keys_is_allowed.Goals as goal

pub returns : goal.returns
returns c = run-allowed
