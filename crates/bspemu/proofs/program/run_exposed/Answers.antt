-- The outcome of the session that also tells what is exposed is the program's answer to `run`.
use Rattle.std.proofs.Common.{refl}
use Rattle.bspemu.proofs.Sessions.{answer_of_exposed}
use Rattle.bspemu.proofs.program.run_exposed.Goals as goal

pub returns : goal.returns
returns g c = rw c.answer_of.ensures (answer_of_exposed _ _ _ _ _ refl c.exposed_session.ensures.ok c.exposed_session.ensures.err)
