-- The parts after their turns are the communication of the next superstep.
use Rattle.node_core.proofs.hart.Communication.turn.Goals as goal

pub returns-clause-turned : goal.returns-clause-turned
returns-clause-turned g c = rw (c.turn.ensures, c.clear.ensures)
