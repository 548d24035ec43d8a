-- The text and the messages that are left make all lines.
use Rattle.std.proofs.Common.{◌≡◌, ◌++◌, drop, string_bytes}
use Rattle.std.specs.List.{flat_map}
use Rattle.debug_lines.specs.Replies.{message_line, queue_lines}
use Rattle.debug_lines.proofs.reply.queue_lines.Given as goal

abbrev pub invariant-loop-message : goal.invariant-loop-message
invariant-loop-message g l =
    string_bytes l.text ++ flat_map message_line (drop l.message-index l.messages) ≡ queue_lines l.messages
