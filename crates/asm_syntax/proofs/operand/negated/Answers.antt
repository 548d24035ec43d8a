-- Clamping a number whose sign was turned is turning the sign of the clamped number.
use Rattle.std.proofs.Common.{arith}
use Rattle.std.specs.Prelude.{unwrap_or}
use Rattle.std.proofs.lemmas.Int.{ints}
use Rattle.numerals.specs.Numbers.{number_value}
use Rattle.asm_syntax.specs.declared.number.TheConstants.{LIMIT}
use Rattle.asm_syntax.proofs.Clamps.{clamped-neg}
use Rattle.asm_syntax.proofs.operand.negated.Goals as goal

pub returns : goal.returns
returns c = rw (clamped-neg LIMIT (unwrap_or (number_value c.args.word.now) 0) (omega arith)) (omega (arith, ints))
