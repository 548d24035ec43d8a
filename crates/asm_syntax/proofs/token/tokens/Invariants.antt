-- The tokens so far and those behind the place are all tokens of the line.
use Rattle.std.proofs.Common.{◌≡◌, ◌-◌, ◌++◌, length, drop, map}
use Rattle.std.specs.Option.{option_map}
use Rattle.asm_syntax.specs.Tokens.{tokens_behind}
use Rattle.asm_syntax.specs.TokenViews.{token_value}
use Rattle.asm_syntax.proofs.token.tokens.Given as goal

abbrev pub invariant-loop-at : goal.invariant-loop-at
invariant-loop-at g l =
    option_map (λ ts. map token_value l.tokens.items ++ ts) (tokens_behind 0 (drop l.at l.line)) ≡ tokens_behind 0 l.line

abbrev pub decreases-loop-at : goal.decreases-loop-at
decreases-loop-at g l = length l.line - l.at
