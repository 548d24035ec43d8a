-- A code above 4 has no rounding mode.
use Rattle.std.proofs.Common.{rules}
use Rattle.float_unit.proofs.unit.mode_of_code.Goals as goal

pub returns-in_default : goal.returns-in_default
returns-in_default c = search rules
