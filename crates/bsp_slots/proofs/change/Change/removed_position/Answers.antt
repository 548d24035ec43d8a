-- A push removes no position; written out, so that a wrong body is refused without another search.
use Rattle.std.proofs.Common.{rules}
use Rattle.bsp_slots.proofs.change.Change.removed_position.Goals as goal

pub returns-in-Push : goal.returns-in-Push
returns-in-Push c = search rules
