-- The outcome of the session that lists is the program's answer to `list`.
use Rattle.std.proofs.Common.{refl}
use Rattle.bspemu.proofs.Sessions.{answer_of_list}
use Rattle.bspemu.proofs.program.list.Goals as goal

pub returns : goal.returns
returns g c = rw c.ended.ensures (answer_of_list c.args.options.now _ _ refl c.list_session.ensures.ok c.list_session.ensures.err)
