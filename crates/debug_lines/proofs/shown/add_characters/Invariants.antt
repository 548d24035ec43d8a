-- The characters so far stand behind the text.
use Rattle.std.proofs.Common.{◌≡◌, ◌++◌, take, string_bytes}
use Rattle.std.specs.List.{flat_map}
use Rattle.debug_lines.specs.Shown.{character}
use Rattle.debug_lines.proofs.shown.add_characters.Given as goal

abbrev pub invariant-loop-byte : goal.invariant-loop-byte
invariant-loop-byte g l = string_bytes l.text ≡ string_bytes l.initial.text ++ flat_map character (take l.byte-index l.bytes)
