-- The operation is the instruction of the operands read, or their fault; written out, since the search would try other ways first.
use Rattle.std.proofs.Common.{arith}
use Rattle.std.proofs.lemmas.Grind.{common_steps}
use Rattle.asm_syntax.proofs.float_operands.operation.Goals as goal

pub returns : goal.returns
returns c = grind (arith, common_steps)
