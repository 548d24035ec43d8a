-- The text and the registers that are left are the text before and all registers.
use Rattle.std.proofs.Common.{◌≡◌, ◌++◌, drop, length, string_bytes}
use Rattle.std.specs.List.{flat_map, enumerate_from}
use Rattle.debug_lines.specs.Floats.{named_float_entry, named_float_lines}
use Rattle.debug_lines.proofs.floats.add_named.Given as goal

abbrev pub invariant-loop-at : goal.invariant-loop-at
invariant-loop-at g l =
    string_bytes l.text ++ flat_map (named_float_entry (length l.f)) (enumerate_from l.at (drop l.at l.f))
    ≡ string_bytes l.initial.text ++ named_float_lines l.f
