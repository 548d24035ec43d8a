-- At the end of the loop no operand is left.
use Rattle.std.proofs.Common.{◌≡◌, ◌<◌, List, [], ◌∷◌, length, Ok, Bor, refl, sym, ◌∙◌, arith}
use Rattle.asm_syntax.specs.declared.float_operands.FloatOperands.{FloatOperands}
use Rattle.asm_syntax.specs.declared.float_operands.Kind.{Kind}
use Rattle.asm_syntax.specs.declared.token.Token.{Token}
use Rattle.asm_syntax.specs.FloatOperands.{read_all}
use Rattle.asm_syntax.specs.TokenViews.{operand_values}
use Rattle.asm_syntax.proofs.float_operands.read_all.Goals as goal

ended : (kinds : List Kind) (rest : List (Bor (List Token))) (o : FloatOperands) → length rest < 1
    → read_all kinds (operand_values rest) o ≡ Ok o
ended [] rest o none = refl
ended (kind ∷ kinds) [] o none = refl
ended (kind ∷ kinds) (operand ∷ rest) o none = absurd (omega (arith, none))

pub returns : goal.returns
returns c =
    sym (ended c.loop-rest.kinds.now c.loop-rest.rest.now c.loop-rest.read c.in_default.len_below) ∙ c.loop-rest.invariant
