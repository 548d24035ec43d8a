-- The spaces that were passed and those that come next make all spaces at the beginning of the line.
use Rattle.std.proofs.Common.{◌≡◌, ◌+◌, drop}
use Rattle.std.specs.List.{prefix_len}
use Rattle.debug_lines.specs.Words.{is_space}
use Rattle.debug_lines.proofs.word.space_len.Given as goal

abbrev pub invariant-loop-at : goal.invariant-loop-at
invariant-loop-at l = l.at + prefix_len is_space (drop l.at l.line) ≡ prefix_len is_space l.line
