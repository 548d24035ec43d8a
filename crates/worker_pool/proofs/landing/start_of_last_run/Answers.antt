-- Each run before the last has a node at least.
use Rattle.worker_pool.proofs.Runs.{enough_for_others}
use Rattle.worker_pool.proofs.landing.start_of_last_run.Goals as goal

pub returns-clause-others : goal.returns-clause-others
returns-clause-others c = enough_for_others c.args.nodes c.args.runs c.requires.some c.requires.enough
