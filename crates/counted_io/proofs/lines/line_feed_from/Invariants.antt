-- The bytes before `i` were looked at.
use Rattle.counted_io.specs.Lines.{LacksFeedWithin}
use Rattle.counted_io.proofs.lines.line_feed_from.Given as goal

abbrev pub invariant-loop-i : goal.invariant-loop-i
invariant-loop-i l = LacksFeedWithin l.text l.start l.i
