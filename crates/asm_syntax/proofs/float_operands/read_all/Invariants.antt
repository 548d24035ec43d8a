-- What is left to be read makes of the operands so far what all makes of those that are left out.
use Rattle.std.proofs.Common.{◌≡◌, length}
use Rattle.asm_syntax.specs.FloatOperands.{read_all}
use Rattle.asm_syntax.specs.TokenViews.{operand_values}
use Rattle.asm_syntax.proofs.float_operands.read_all.Given as goal

abbrev pub invariant-loop-rest : goal.invariant-loop-rest
invariant-loop-rest l =
    read_all l.kinds (operand_values l.rest) l.read ≡ read_all l.fn.kinds (operand_values l.fn.operands) l.fn.left_out

abbrev pub decreases-loop-rest : goal.decreases-loop-rest
decreases-loop-rest l = length l.rest
