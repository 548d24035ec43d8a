-- The time is the cost of the supersteps that are over and the node's ticks, but at most 2^64 - 1; a search finds it.
use Rattle.std.proofs.Common.{rules}
use Rattle.node_core.proofs.clock.Clock.time.Goals as goal

pub returns : goal.returns
returns c = search rules
