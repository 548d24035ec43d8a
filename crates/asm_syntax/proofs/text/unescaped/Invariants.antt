-- The text so far and what the rest stands for are what all bytes stand for.
use Rattle.std.proofs.Common.{◌≡◌, ◌++◌, length}
use Rattle.asm_syntax.specs.TokenViews.{unescaped}
use Rattle.asm_syntax.proofs.text.unescaped.Given as goal

abbrev pub invariant-loop-rest : goal.invariant-loop-rest
invariant-loop-rest g l = l.text.items ++ unescaped l.rest ≡ unescaped l.raw

abbrev pub decreases-loop-rest : goal.decreases-loop-rest
decreases-loop-rest g l = length l.rest
