-- The text has the one rank, or the first and the last; written out, since the search would try other ways first.
use Rattle.std.proofs.Common.{arith}
use Rattle.std.proofs.lemmas.Grind.{common_steps}
use Rattle.debug_lines.proofs.kept.add_ranks.Goals as goal

pub returns-then-first-last : goal.returns-then-first-last
returns-then-first-last g c = grind (arith, common_steps)

pub returns-else-first-last : goal.returns-else-first-last
returns-else-first-last g c = grind (arith, common_steps)
