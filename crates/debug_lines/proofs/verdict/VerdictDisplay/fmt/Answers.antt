-- A line that is no command is answered as refused, with the name `BadCommand`.
use Rattle.debug_lines.proofs.verdict.VerdictDisplay.fmt.Goals as goal

pub returns-in-BadCommand-clause-writes : goal.returns-in-BadCommand-clause-writes
returns-in-BadCommand-clause-writes g c = λ p ok. rw c.in-BadCommand.is (c.write-in-BadCommand.ensures.writes p ok)
