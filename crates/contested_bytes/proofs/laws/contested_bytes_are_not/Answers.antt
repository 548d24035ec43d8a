-- The two landings that bring a byte differently may each come last, so two orders differ in it.
use Rattle.contested_bytes.proofs.Inside.{either_may_lie}
use Rattle.contested_bytes.proofs.Orders.{contested_byte}
use Rattle.contested_bytes.proofs.laws.contested_bytes_are_not.Goals as goal

pub returns-clause-memory : goal.returns-clause-memory
returns-clause-memory c = contested_byte

pub returns-clause-nodes : goal.returns-clause-nodes
returns-clause-nodes c = either_may_lie
