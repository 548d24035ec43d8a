-- The bytes that were passed and those up to the next space make the length of the first word.
use Rattle.std.proofs.Common.{◌≡◌, ◌+◌, drop}
use Rattle.std.specs.List.{position_or_len}
use Rattle.debug_lines.specs.Words.{is_space}
use Rattle.debug_lines.proofs.word.word_len.Given as goal

abbrev pub invariant-loop-at : goal.invariant-loop-at
invariant-loop-at l = l.at + position_or_len is_space (drop l.at l.line) ≡ position_or_len is_space l.line
