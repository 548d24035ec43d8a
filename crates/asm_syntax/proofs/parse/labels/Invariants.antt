-- The labels so far and those that the rest begins with are all labels, and what comes behind them is the same.
use Rattle.std.proofs.Common.{◌≡◌, ◌++◌, length, map}
use Rattle.asm_syntax.specs.Parse.{labels_in, behind_labels}
use Rattle.asm_syntax.specs.TokenViews.{token_value}
use Rattle.asm_syntax.proofs.parse.labels.Given as goal

abbrev pub invariant-loop-rest : goal.invariant-loop-rest
invariant-loop-rest g l =
    (map (λ label. label.now) l.labels.items ++ labels_in (map token_value l.rest) ≡ labels_in (map token_value l.tokens))
    × (behind_labels (map token_value l.rest) ≡ behind_labels (map token_value l.tokens))

abbrev pub decreases-loop-rest : goal.decreases-loop-rest
decreases-loop-rest g l = length l.rest
