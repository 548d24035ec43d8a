-- The row has what the exchange moves, or nothing.
use Rattle.machine_core.proofs.Standard.{costs_less}
use Rattle.machine_core.proofs.laws.a_turn_that_is_not_large_costs_less.Goals as goal

pub returns : goal.returns
returns c = costs_less
