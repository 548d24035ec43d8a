-- The next list is in effect, with no push and no pop; written out, so that a wrong body is refused without another search.
use Rattle.std.proofs.Common.{rules}
use Rattle.bsp_slots.proofs.slots.Slots.turn.Goals as goal

pub returns : goal.returns
returns g c = search rules
