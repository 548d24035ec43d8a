-- The calls come to an end: of the three steps of a round each counts less than the one before, and the next round has a worker less.
use Rattle.std.proofs.Common.{◌+◌, ◌*◌}
use Rattle.worker_pool.proofs.part.+workers.Given as goal

abbrev pub decreases-work_in_threads : goal.decreases-work_in_threads
decreases-work_in_threads g l = l.workers * 3 + 2

abbrev pub decreases-work_beside : goal.decreases-work_beside
decreases-work_beside g l = l.workers * 3 + 1

abbrev pub decreases-work_beside-scope : goal.decreases-work_beside-scope
decreases-work_beside-scope g l = l.workers * 3
