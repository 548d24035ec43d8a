-- The rounding field RUP asks for rounding up.
use Rattle.std.proofs.Common.{rules}
use Rattle.float_unit.proofs.unit.FloatUnit.mode.Goals as goal

pub returns-in-Rup : goal.returns-in-Rup
returns-in-Rup c = search rules
