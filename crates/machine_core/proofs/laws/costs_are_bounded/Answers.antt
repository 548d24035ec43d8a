-- The three bounds of a sound machine: on its exchanges, its rows and the cost of the superstep.
use Rattle.machine_core.proofs.Costs.{IsBounded-cost_row}
use Rattle.machine_core.proofs.Ends.{exchanges-le-limit, length-ledger}
use Rattle.machine_core.proofs.laws.costs_are_bounded.Goals as goal

pub returns-clause-exchanges : goal.returns-clause-exchanges
returns-clause-exchanges c = exchanges-le-limit

pub returns-clause-rows : goal.returns-clause-rows
returns-clause-rows c = length-ledger

pub returns-clause-row : goal.returns-clause-row
returns-clause-row c = IsBounded-cost_row
