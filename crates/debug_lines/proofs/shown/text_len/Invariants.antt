-- The bytes that were passed and those that still belong to the text make the length of the text.
use Rattle.std.proofs.Common.{◌≡◌, ◌+◌, drop}
use Rattle.std.specs.List.{prefix_len}
use Rattle.debug_lines.specs.Shown.{is_of_text}
use Rattle.debug_lines.proofs.shown.text_len.Given as goal

abbrev pub invariant-loop-at : goal.invariant-loop-at
invariant-loop-at l = l.at + prefix_len is_of_text (drop l.at l.bytes) ≡ prefix_len is_of_text l.bytes
