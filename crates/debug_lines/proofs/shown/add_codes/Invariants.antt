-- The text and those of the lines that are left make all lines.
use Rattle.std.proofs.Common.{◌≡◌, ◌++◌, ◌-◌, take, string_bytes}
use Rattle.std.specs.List.{flat_map}
use Rattle.rv_listing.specs.Listing.{ended_line}
use Rattle.debug_lines.proofs.shown.add_codes.Given as goal

abbrev pub invariant-loop-told : goal.invariant-loop-told
invariant-loop-told g l =
    string_bytes l.text ++ flat_map (ended_line l.extensions) (take (l.count - l._told) l.lines)
    ≡ string_bytes l.initial.text ++ flat_map (ended_line l.extensions) (take l.count l.initial.lines)
