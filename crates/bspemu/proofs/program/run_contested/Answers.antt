-- The outcome of the session that also tells what is contested is the program's answer to `run`.
use Rattle.std.proofs.Common.{refl}
use Rattle.bspemu.proofs.Sessions.{answer_of_contested}
use Rattle.bspemu.proofs.program.run_contested.Goals as goal

pub returns : goal.returns
returns g c = rw c.answer_of.ensures (answer_of_contested _ _ _ _ _ refl c.contested_session.ensures.ok c.contested_session.ensures.err)
