-- A line of spaces alone has no word; any other line has the first word and then the words of what is behind it.
use Rattle.std.proofs.Common.{◌≡◌, ◌<◌, length, sym, arith}
use Rattle.std.proofs.lemmas.Grind.{common_steps}
use Rattle.debug_lines.proofs.FirstWords.{no_word, first_word}
use Rattle.debug_lines.proofs.word.split_word.Goals as goal

pub returns-then-is_empty : goal.returns-then-is_empty
returns-then-is_empty c =
    let none : length c.without_spaces-rest.result.now ≡ 0 = grind (arith, common_steps) in
    no_word c.args.line.now (rw (sym c.without_spaces-rest.ensures) none)

pub returns-else-is_empty : goal.returns-else-is_empty
returns-else-is_empty c =
    let some : 0 < length c.without_spaces-rest.result.now = grind (arith, common_steps) in
    let parts = first_word c.args.line.now (rw (sym c.without_spaces-rest.ensures) some) in
    rw c.split_at.ensures.front (rw c.split_at.ensures.back (rw c.word_len.ensures.value (rw c.without_spaces-rest.ensures parts)))
