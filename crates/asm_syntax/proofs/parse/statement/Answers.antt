-- A statement that does not begin with a name has no known mnemonic; written out, since the search would try other ways first.
use Rattle.std.proofs.Common.{arith}
use Rattle.std.proofs.lemmas.Grind.{common_steps}
use Rattle.asm_syntax.proofs.parse.statement.Goals as goal

pub returns-in_default-clause-err : goal.returns-in_default-clause-err
returns-in_default-clause-err g c = grind (arith, common_steps)
