-- The messages of the rows are those that the ranks receive, whose greatest number is that of the superstep's cost.
use Rattle.bsp_profile.proofs.Ledgers.{traffic-messages}
use Rattle.bsp_profile.proofs.laws.the_most_messages_are_those_of_the_cost.Goals as goal

pub returns : goal.returns
returns c m sound = traffic-messages m sound
