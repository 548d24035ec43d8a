-- The two parts of the law: h is at most h with what nodes move to themselves, and equal if no bytes are moved so.
use Rattle.bsp_exchange.proofs.Readings.{h_at_most, h_same}
use Rattle.bsp_exchange.proofs.laws.h_is_at_most_h_all.Goals as goal

pub returns-clause-most : goal.returns-clause-most
returns-clause-most c = h_at_most

pub returns-clause-same : goal.returns-clause-same
returns-clause-same c = h_same
