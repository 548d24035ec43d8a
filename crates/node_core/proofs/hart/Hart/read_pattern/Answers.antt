-- The pattern of a double is that of its two words; a search finds it.
use Rattle.std.proofs.Common.{rules}
use Rattle.node_core.proofs.hart.Hart.read_pattern.Goals as goal

pub returns-in_ok-high-in-Double : goal.returns-in_ok-high-in-Double
returns-in_ok-high-in-Double g c = search rules
