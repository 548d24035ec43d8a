-- The parts between the commas are the operands, whose tokens have the values of the definition.
use Rattle.std.proofs.Common.{arith, rules, tests}
use Rattle.std.proofs.lemmas.Bool.Decides.{nat_tests}
use Rattle.std.proofs.lemmas.Iterator.Consumers.{map_from_collect}
use Rattle.std.proofs.lemmas.Iterator.Splits.{YieldsList-from_slice_split}
use Rattle.asm_syntax.specs.Operands.{is_comma}
use Rattle.asm_syntax.specs.TokenViews.{token_value}
use Rattle.asm_syntax.proofs.CommaParts.{operand_values-split, IfOk-further}
use Rattle.asm_syntax.proofs.parse.operands.Goals as goal

pub returns : goal.returns
returns g c =
    let parts =
    map_from_collect _ c.collect.ensures.ran
    (YieldsList-from_slice_split _ (λ t. is_comma (token_value t)) c.args.tokens.now c.split.ensures.rest c.split.ensures.done
    c.split.ensures.closure (λ x b q k. search (rules, tests))) in
    IfOk-further c.collect.result _ _ (λ w h. operand_values-split w.items c.args.tokens.now (grind (arith, nat_tests)) h) parts
