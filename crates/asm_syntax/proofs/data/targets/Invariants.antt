-- The operands that are left, put behind the targets so far, come to what all operands come to.
use Rattle.std.proofs.Common.{◌≡◌, ◌<◌, drop, map, length}
use Rattle.asm_syntax.specs.Operands.{target_in, fits_target}
use Rattle.asm_syntax.specs.Views.{target_value}
use Rattle.asm_syntax.proofs.Gathered.{behind, gathered}
use Rattle.asm_syntax.proofs.data.targets.Given as goal

abbrev pub invariant-loop-operand : goal.invariant-loop-operand
invariant-loop-operand g l =
    (0 < length l.operands)
    × (behind (gathered fits_target target_in (drop l.operand-index l.operands)) l.fits (map target_value l.targets.items)
    ≡ gathered fits_target target_in l.operands)
