-- The text and the words that are left make all rows.
use Rattle.std.proofs.Common.{◌≡◌, ◌++◌, ◌-◌, length, string_bytes}
use Rattle.std.specs.Prelude.{◌/◌}
use Rattle.std.specs.List.{flat_map, range_with_len}
use Rattle.debug_lines.specs.Shown.{word_entry, word_lines}
use Rattle.debug_lines.proofs.shown.word_lines.Given as goal

abbrev pub invariant-loop-at : goal.invariant-loop-at
invariant-loop-at g l =
    string_bytes l.text ++ flat_map (word_entry l.addr (length l.bytes / 4) l.bytes) (range_with_len l.at (length l.bytes / 4 - l.at))
    ≡ word_lines l.addr l.bytes
