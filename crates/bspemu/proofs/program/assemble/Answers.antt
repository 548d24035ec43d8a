-- The outcome of the session that assembles is the program's answer to `asm`.
use Rattle.std.proofs.Common.{refl}
use Rattle.bspemu.proofs.Sessions.{answer_of_asm}
use Rattle.bspemu.proofs.program.assemble.Goals as goal

pub returns : goal.returns
returns g c = rw c.ended.ensures (answer_of_asm _ _ _ refl c.asm_session.ensures.ok c.asm_session.ensures.err)
