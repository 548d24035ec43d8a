-- The outcome of the session that writes at its end is the program's answer to `run`.
use Rattle.std.proofs.Common.{refl}
use Rattle.bspemu.proofs.Sessions.{answer_at_end}
use Rattle.bspemu.proofs.program.run_to_end.Goals as goal

pub returns : goal.returns
returns g c = rw c.answer_of.ensures (answer_at_end _ _ _ refl c.session.ensures.ok c.session.ensures.err)
