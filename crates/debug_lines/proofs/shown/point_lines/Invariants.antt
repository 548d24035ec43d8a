-- The text and the points that are left make all lines.
use Rattle.std.proofs.Common.{◌≡◌, ◌++◌, drop, string_bytes}
use Rattle.std.specs.List.{flat_map}
use Rattle.debug_lines.specs.Shown.{point_line, point_lines}
use Rattle.debug_lines.proofs.shown.point_lines.Given as goal

abbrev pub invariant-loop-point : goal.invariant-loop-point
invariant-loop-point g l = string_bytes l.text ++ flat_map point_line (drop l.point-index l.points) ≡ point_lines l.points
