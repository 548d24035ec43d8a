-- What the rows send and receive is the traffic of the ranks, whose greatest is h, and h_all with what ranks move to themselves.
use Rattle.bsp_profile.proofs.Ledgers.{traffic-h, traffic-h_all}
use Rattle.bsp_profile.proofs.laws.the_greatest_traffic_is_h.Goals as goal

pub returns-clause-h : goal.returns-clause-h
returns-clause-h c m sound = traffic-h m sound

pub returns-clause-h_all : goal.returns-clause-h_all
returns-clause-h_all c m sound = traffic-h_all m sound
