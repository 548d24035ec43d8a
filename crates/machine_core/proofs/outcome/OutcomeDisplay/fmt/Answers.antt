-- The parts of a desync are joined in another order than the definition joins them in.
use Rattle.std.proofs.Common.{append_assoc}
use Rattle.machine_core.proofs.outcome.OutcomeDisplay.fmt.Goals as goal

pub returns-in-Desync-clause-writes : goal.returns-in-Desync-clause-writes
returns-in-Desync-clause-writes g c = λ p ok.
    rw c.in-Desync.is (simp append_assoc (c.write-in-Desync.ensures.writes p ok))
