-- A register read as a single is the operand of the definition, which is the canonical NaN if the register has no boxed single.
use Rattle.std.proofs.Common.{rules}
use Rattle.float_unit.proofs.unit.FloatUnit.operand.Goals as goal

pub returns : goal.returns
returns g c = search rules
