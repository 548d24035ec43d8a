-- Each step adds the token at the place, or passes a blank; a comment ends the line, and a bad byte is the fault.
use Rattle.std.proofs.Common.{◌+◌, ◌++◌, map, arith, refl, sym, ap, ◌∙◌}
use Rattle.std.specs.Option.{option_map}
use Rattle.std.proofs.lemmas.List.{at_drop_all}
use Rattle.asm_syntax.specs.Tokens.{blank, comment, token, nothing, tokens_of, tokens_behind}
use Rattle.asm_syntax.specs.TokenViews.{token_value}
use Rattle.asm_syntax.proofs.TokenSteps.{tokens_behind-step, further, ended, refused}
use Rattle.asm_syntax.proofs.token.tokens.Goals as goal

pub returns-in-Comment-clause-ok : goal.returns-in-Comment-clause-ok
unfolding tokens_of
returns-in-Comment-clause-ok g c =
    ended _ _ _ (tokens_behind-step c.args.line.now c.loop-at.at comment c.loop-at-test.true c.in-Comment.ensures.value _ refl)
    c.loop-at.invariant

pub loop-at-preserved-in-Blank : goal.loop-at-preserved-in-Blank
loop-at-preserved-in-Blank g c =
    ap (option_map (λ ts. map token_value c.loop-at.tokens.items ++ ts))
    (sym (tokens_behind-step c.args.line.now c.loop-at.at blank c.loop-at-test.true c.in-Blank.ensures.value (c.loop-at.at + 1)
    (omega arith)))
    ∙ c.loop-at.invariant

pub loop-at-preserved : goal.loop-at-preserved
loop-at-preserved g c =
    further token_value _ _ c.in-Token.token _ _ _ c.in_ok-push-in-Token.ensures.items
    (tokens_behind-step c.args.line.now c.loop-at.at (token (token_value c.in-Token.token) c.in-Token.len) c.loop-at-test.true
    c.in-Token.ensures.value (c.loop-at.at + c.in-Token.len) (omega (arith, c.in-Token.ensures.within.0)))
    c.loop-at.invariant

pub returns-in-Nothing-clause-err : goal.returns-in-Nothing-clause-err
unfolding tokens_of
returns-in-Nothing-clause-err g c =
    λ _. (
      refl,
      refused _ _ _ (tokens_behind-step c.args.line.now c.loop-at.at nothing c.loop-at-test.true c.in-Nothing.ensures.value _ refl)
          c.loop-at.invariant,
    )

pub returns-clause-ok : goal.returns-clause-ok
unfolding tokens_of
returns-clause-ok g c =
    ended _ _ _ (at_drop_all (tokens_behind 0) c.args.line.now c.loop-at.at (omega arith)) c.loop-at.invariant
