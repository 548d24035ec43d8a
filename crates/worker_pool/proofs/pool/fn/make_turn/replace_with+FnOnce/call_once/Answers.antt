-- The closure may be called with the machine that is replaced.
use Rattle.std.proofs.Common.{rules}
use Rattle.worker_pool.proofs.pool.fn.make_turn.replace_with+FnOnce.call_once.Goals as goal

pub replace_with-requires : goal.replace_with-requires
replace_with-requires g c = search rules
