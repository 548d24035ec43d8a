-- The outcome of the session that writes while the run goes on is the program's answer to `run`.
use Rattle.std.proofs.Common.{refl}
use Rattle.bspemu.proofs.Sessions.{answer_of_live}
use Rattle.bspemu.proofs.program.run_live.Goals as goal

pub returns : goal.returns
returns g c = rw c.answer_of.ensures (answer_of_live _ _ _ refl c.live_session.ensures.ok c.live_session.ensures.err)
