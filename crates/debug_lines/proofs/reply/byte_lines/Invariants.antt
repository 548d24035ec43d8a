-- The text and the bytes that are left make all lines.
use Rattle.std.proofs.Common.{◌≡◌, ◌++◌, drop, length, string_bytes}
use Rattle.std.specs.List.{flat_map, enumerate_from}
use Rattle.debug_lines.specs.Replies.{byte_entry, byte_lines}
use Rattle.debug_lines.proofs.reply.byte_lines.Given as goal

abbrev pub invariant-loop-at : goal.invariant-loop-at
invariant-loop-at g l =
    string_bytes l.text ++ flat_map (byte_entry (length l.bytes)) (enumerate_from l.at (drop l.at l.bytes))
    ≡ byte_lines l.bytes
