-- The outcome of the session that also writes a profile is the program's answer to `run`.
use Rattle.std.proofs.Common.{refl}
use Rattle.bspemu.proofs.Sessions.{answer_of_profiled, answer_of_too_many}
use Rattle.bspemu.proofs.program.run_profiled.Goals as goal

pub returns-then-has_too_many_nodes : goal.returns-then-has_too_many_nodes
returns-then-has_too_many_nodes g c =
    answer_of_too_many c.args.options.now c.args.path (c.has_too_many_nodes.ensures.0 c.if-has_too_many_nodes.true)

pub returns : goal.returns
returns g c = rw c.answer_of.ensures (answer_of_profiled _ _ _ _ _ refl c.profile_session.ensures.ok c.profile_session.ensures.err)
