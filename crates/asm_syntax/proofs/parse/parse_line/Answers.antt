-- The numbers of a statement that was read are in range.
use Rattle.asm_syntax.specs.Views.{statement_value}
use Rattle.asm_syntax.proofs.Facts.{statement_in-in_range, IfSome-mapped}
use Rattle.asm_syntax.proofs.parse.parse_line.Goals as goal

pub returns-clause-in_range : goal.returns-clause-in_range
returns-clause-in_range g c =
    IfSome-mapped statement_value c.in_ok-statement.statement (statement_in-in_range _ _ _ c.in_ok-statement.ensures.ok)
