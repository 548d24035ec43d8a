-- The outcome of the session that also counts steps is the program's answer to `run`.
use Rattle.std.proofs.Common.{refl}
use Rattle.bspemu.proofs.Sessions.{answer_of_counted}
use Rattle.bspemu.proofs.program.run_counted.Goals as goal

pub returns : goal.returns
returns g c = rw c.answer_of.ensures (answer_of_counted _ _ _ _ _ refl c.counts_session.ensures.ok c.counts_session.ensures.err)
