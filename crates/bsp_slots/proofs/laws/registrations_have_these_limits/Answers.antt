-- Each limit is one of two numbers.
use Rattle.bsp_slots.proofs.Limits.{most_entries, most_pushes}
use Rattle.bsp_slots.proofs.laws.registrations_have_these_limits.Goals as goal

pub returns-clause-entries : goal.returns-clause-entries
returns-clause-entries c = most_entries

pub returns-clause-pushes : goal.returns-clause-pushes
returns-clause-pushes c = most_pushes
