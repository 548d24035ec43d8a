-- The text and the registers that are left are the text before and all registers.
use Rattle.std.proofs.Common.{◌≡◌, ◌++◌, drop, length, string_bytes}
use Rattle.std.specs.List.{flat_map, enumerate_from}
use Rattle.debug_lines.specs.Replies.{float_entry, float_lines}
use Rattle.debug_lines.proofs.floats.add_floats.Given as goal

abbrev pub invariant-loop-at : goal.invariant-loop-at
invariant-loop-at g l =
    string_bytes l.text ++ flat_map (float_entry (length l.f)) (enumerate_from l.at-counter (drop l.at-counter l.f))
    ≡ string_bytes l.initial.text ++ float_lines l.f
