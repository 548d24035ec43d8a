-- The order in which this landing comes last is allowed, and leaves its byte there.
use Rattle.contested_bytes.proofs.Inside.{may_lie, named_may_lie}
use Rattle.contested_bytes.proofs.Orders.{last_byte}
use Rattle.contested_bytes.proofs.laws.each_landing_may_be_the_last.Goals as goal

pub returns-clause-memory : goal.returns-clause-memory
returns-clause-memory c = last_byte

pub returns-clause-nodes : goal.returns-clause-nodes
returns-clause-nodes c = may_lie

pub returns-clause-range : goal.returns-clause-range
returns-clause-range c = named_may_lie
