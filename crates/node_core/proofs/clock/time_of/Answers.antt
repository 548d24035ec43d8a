-- A node without a clock shows no time; a search finds it.
use Rattle.std.proofs.Common.{rules}
use Rattle.node_core.proofs.clock.time_of.Goals as goal

pub returns-in-None : goal.returns-in-None
returns-in-None c = search rules
