-- At the end of the loop the tokens that are left begin with no label.
use Rattle.std.proofs.Common.{◌≡◌, ◌++◌, List, [], ◌∷◌, map, append-nil, refl, sym, ap, ◌∙◌, arith}
use Rattle.std.proofs.lemmas.Grind.{common_steps}
use Rattle.asm_syntax.specs.Parse.{labels_in, behind_labels}
use Rattle.asm_syntax.specs.Tokens.{Token, name, colon}
use Rattle.asm_syntax.specs.TokenViews.{token_value}
use Rattle.asm_syntax.proofs.parse.labels.Goals as goal
use Rattle.asm_syntax.proofs.parse.labels.Goals.{in_default, in_default-2, in_default-3}

behind_labels-none : (ts : List Token) → labels_in ts ≡ [] → behind_labels ts ≡ ts
behind_labels-none (name label ∷ colon ∷ rest) h = cc
behind_labels-none _ h = refl

pub returns-clause-labels : goal.returns-clause-labels
returns-clause-labels g c =
    let none : labels_in (map token_value c.loop-rest.rest.now) ≡ [] =
    elim c.if-rest-lt2.branch [
      | in_default w ↦ grind (arith, common_steps)
      | in_default-2 w ↦ grind (arith, common_steps)
      | in_default-3 w ↦ grind (arith, common_steps)
    ] in
    sym (append-nil _) ∙ (ap (λ more. map (λ label. label.now) c.loop-rest.labels.items ++ more) (sym none) ∙ c.loop-rest.invariant.0)

pub returns-clause-rest : goal.returns-clause-rest
returns-clause-rest g c =
    let none : labels_in (map token_value c.loop-rest.rest.now) ≡ [] =
    elim c.if-rest-lt2.branch [
      | in_default w ↦ grind (arith, common_steps)
      | in_default-2 w ↦ grind (arith, common_steps)
      | in_default-3 w ↦ grind (arith, common_steps)
    ] in
    sym (behind_labels-none _ none) ∙ c.loop-rest.invariant.1
