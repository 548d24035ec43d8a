-- The text and the registers that are left are the text before and all registers.
use Rattle.std.proofs.Common.{◌≡◌, ◌++◌, drop, length, string_bytes}
use Rattle.std.specs.List.{flat_map, enumerate_from}
use Rattle.debug_lines.specs.Replies.{register_entry, register_lines}
use Rattle.debug_lines.proofs.reply.add_registers.Given as goal

abbrev pub invariant-loop-at : goal.invariant-loop-at
invariant-loop-at g l =
    string_bytes l.text ++ flat_map (register_entry (length l.x)) (enumerate_from l.at-counter (drop l.at-counter l.x))
    ≡ string_bytes l.initial.text ++ register_lines l.x
