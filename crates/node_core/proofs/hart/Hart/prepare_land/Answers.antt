-- More pages are private than before, and after a refusal not yet all of the range; a search finds both.
use Rattle.std.proofs.Common.{rules}
use Rattle.node_core.proofs.hart.Hart.prepare_land.Goals as goal

pub returns-clause-more : goal.returns-clause-more
returns-clause-more g c = search rules

pub returns-clause-refused : goal.returns-clause-refused
returns-clause-refused g c = search rules
