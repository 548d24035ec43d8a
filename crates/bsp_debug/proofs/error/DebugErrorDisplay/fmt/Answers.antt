-- The text that is written is the name of the error.
use Rattle.std.proofs.Common.{rules}
use Rattle.bsp_debug.proofs.error.DebugErrorDisplay.fmt.Goals as goal

pub returns-clause-writes : goal.returns-clause-writes
returns-clause-writes g c = search rules
