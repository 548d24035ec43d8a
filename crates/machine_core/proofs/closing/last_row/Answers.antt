-- The row that is built is the one of the definition, field by field.
use Rattle.std.proofs.Common.{refl}
use Rattle.machine_core.proofs.closing.last_row.Goals as goal

pub returns : goal.returns
returns c = refl
