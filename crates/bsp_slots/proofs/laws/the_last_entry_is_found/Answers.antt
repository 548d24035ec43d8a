-- Entry by entry from the end of the list: the position found is that of the last entry, or no entry has the address.
use Rattle.bsp_slots.proofs.Positions.{last_position-cases}
use Rattle.bsp_slots.proofs.laws.the_last_entry_is_found.Goals as goal

pub returns : goal.returns
returns c = last_position-cases
