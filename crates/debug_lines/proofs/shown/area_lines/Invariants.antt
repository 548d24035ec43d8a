-- The text and the areas that are left make all lines.
use Rattle.std.proofs.Common.{◌≡◌, ◌++◌, drop, string_bytes}
use Rattle.std.specs.List.{flat_map, enumerate_from}
use Rattle.debug_lines.specs.Shown.{area_line, area_lines}
use Rattle.debug_lines.proofs.shown.area_lines.Given as goal

abbrev pub invariant-loop-number : goal.invariant-loop-number
invariant-loop-number g l =
    string_bytes l.text ++ flat_map area_line (enumerate_from l.number (drop l.number l.slots.registrations.in_effect))
    ≡ area_lines l.slots.registrations.in_effect
