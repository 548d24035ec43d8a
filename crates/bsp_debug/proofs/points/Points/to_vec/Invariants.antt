-- The points so far and those that are left are all of them.
use Rattle.std.proofs.Common.{◌≡◌, ◌++◌}
use Rattle.bsp_debug.proofs.points.Points.to_vec.Given as goal

abbrev pub invariant-loop-point : goal.invariant-loop-point
invariant-loop-point g l = l.points.items ++ l.point-iterator ≡ l.self
