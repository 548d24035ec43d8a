-- What is written of a `TagMismatch` is its `fault_text`.
use Rattle.bsp_exchange.proofs.fault.ExchangeFaultDisplay.fmt.Goals as goal

pub returns-in-TagMismatch-clause-writes : goal.returns-in-TagMismatch-clause-writes
returns-in-TagMismatch-clause-writes g c = λ p ok. rw c.in-TagMismatch.is (c.write.ensures.writes p ok)
