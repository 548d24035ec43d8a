-- An operand that begins with no label is the target of its number; written out, since the search would try other ways first.
use Rattle.std.proofs.Common.{arith}
use Rattle.std.proofs.lemmas.Grind.{common_steps}
use Rattle.asm_syntax.proofs.operand.any_target.Goals as goal

pub returns-in_default : goal.returns-in_default
returns-in_default c = grind (arith, common_steps)
