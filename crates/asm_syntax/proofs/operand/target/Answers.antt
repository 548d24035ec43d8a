-- A target in its range is the one that is read, and one beyond it the fault; written out, since the search would try other ways first.
use Rattle.std.proofs.Common.{arith}
use Rattle.std.proofs.lemmas.Grind.{common_steps}
use Rattle.asm_syntax.proofs.operand.target.Goals as goal

pub returns-then-target : goal.returns-then-target
returns-then-target c = grind (arith, common_steps)

pub returns-else-low-target : goal.returns-else-low-target
returns-else-low-target c = grind (arith, common_steps)
