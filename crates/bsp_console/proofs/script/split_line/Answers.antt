-- A line feed parts the text in two, and a text that has none is one line.
use Rattle.std.proofs.Common.{take_all}
use Rattle.std.proofs.lemmas.List.{take_rest}
use Rattle.bsp_console.proofs.Scripts.{lines_of-last, lines_of-read}
use Rattle.bsp_console.proofs.script.split_line.Goals as goal

pub returns-then-byte-eq10-clause-lines : goal.returns-then-byte-eq10-clause-lines
returns-then-byte-eq10-clause-lines c =
    rw take_rest (lines_of-read c.args.text.now c.loop-at.at c.loop-at-test.true c.if-byte-eq10.true c.loop-at.invariant)

pub returns-clause-lines : goal.returns-clause-lines
returns-clause-lines c = lines_of-last _ (rw (take_all _ _ c.loop-at-test.false) at c.loop-at.invariant)
