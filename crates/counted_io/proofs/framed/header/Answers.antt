-- The text of a refusal begins with its word; written out, so that a wrong text is refused without another search.
use Rattle.std.proofs.Common.{rules}
use Rattle.counted_io.proofs.framed.header.Goals as goal

pub returns-then-refused : goal.returns-then-refused
returns-then-refused c = search rules
