-- Each line is told by one lemma of what is left.
use Rattle.std.proofs.Common.{arith}
use Rattle.rv_listing.proofs.NextLine.{next_code, next_byte, no_line}
use Rattle.rv_listing.proofs.lines.LinesIterator.next.Goals as goal

pub returns-in-Some-clause-steps : goal.returns-in-Some-clause-steps
returns-in-Some-clause-steps c = grind (arith, next_code)

pub returns-then-at-bytes-clause-steps : goal.returns-then-at-bytes-clause-steps
returns-then-at-bytes-clause-steps c = grind (arith, next_byte)

pub returns-else-at-bytes-clause-steps : goal.returns-else-at-bytes-clause-steps
returns-else-at-bytes-clause-steps c = grind (arith, no_line)
