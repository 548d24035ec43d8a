-- The bytes before `at` are no line feeds.
use Rattle.std.proofs.Common.{take}
use Rattle.counted_io.specs.Lines.{LacksFeed}
use Rattle.bsp_console.proofs.script.split_line.Given as goal

abbrev pub invariant-loop-at : goal.invariant-loop-at
invariant-loop-at l = LacksFeed (take l.at l.text)
