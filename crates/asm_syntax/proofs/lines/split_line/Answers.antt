-- A line feed ends the first line, and the lines of the text behind it are the others; without one there is one line.
use Rattle.std.proofs.Common.{◌≡◌, ◌+◌, ◌-◌, length, take, drop, arith, length-drop}
use Rattle.std.proofs.lemmas.List.{take_all}
use Rattle.asm_syntax.proofs.LineSplits.{lines_of-found, lines_of-absent}
use Rattle.asm_syntax.proofs.lines.split_line.Goals as goal

pub returns-in-Some-clause-lines : goal.returns-in-Some-clause-lines
returns-in-Some-clause-lines c =
    let text = c.args.text.now in
    let rest : take (length text - (c.in-Some.at + 1)) (drop (c.in-Some.at + 1) text) ≡ drop (c.in-Some.at + 1) text =
    take_all _ _ (omega (arith, length-drop (c.in-Some.at + 1) text)) in
    rw (rest, c.without_return.ensures) (lines_of-found text c.in-Some.at cc)

pub returns-in-None-clause-lines : goal.returns-in-None-clause-lines
returns-in-None-clause-lines c = lines_of-absent c.args.text.now cc
