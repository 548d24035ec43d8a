-- What a row has as sent and kept is all that the rank sends in the exchange; likewise what it receives.
use Rattle.bsp_profile.proofs.Ledgers.{row-received, row-sent}
use Rattle.bsp_profile.proofs.laws.what_a_rank_moves_is_in_three_parts.Goals as goal

pub returns-clause-sent : goal.returns-clause-sent
returns-clause-sent c m at sound makes = row-sent m sound makes at

pub returns-clause-received : goal.returns-clause-received
returns-clause-received c m at sound makes = row-received m sound makes at
