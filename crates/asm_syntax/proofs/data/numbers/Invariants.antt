-- The operands that are left, put behind the numbers so far, come to what all operands come to.
use Rattle.std.proofs.Common.{◌≡◌, ◌<◌, drop, length}
use Rattle.asm_syntax.specs.Operands.{number_in}
use Rattle.asm_syntax.specs.Ranges.{from_to, is_within}
use Rattle.asm_syntax.proofs.Gathered.{behind, gathered}
use Rattle.asm_syntax.proofs.data.numbers.Given as goal

abbrev pub invariant-loop-operand : goal.invariant-loop-operand
invariant-loop-operand g l =
    (0 < length l.operands)
    × (behind (gathered (is_within (from_to l.low l.high)) number_in (drop l.operand-index l.operands)) l.fits l.numbers.items
    ≡ gathered (is_within (from_to l.low l.high)) number_in l.operands)
