-- The calls come to an end: of the three steps of a round each counts less than the one before, and the next round has a thread less.
use Rattle.std.proofs.Common.{◌+◌, ◌*◌}
use Rattle.worker_pool.proofs.landing.+threads.Given as goal

abbrev pub decreases-make_in_threads : goal.decreases-make_in_threads
decreases-make_in_threads g l = l.threads * 3 + 2

abbrev pub decreases-make_beside : goal.decreases-make_beside
decreases-make_beside g l = l.threads * 3 + 1

abbrev pub decreases-make_beside-scope : goal.decreases-make_beside-scope
decreases-make_beside-scope g l = l.threads * 3
