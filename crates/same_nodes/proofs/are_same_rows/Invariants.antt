-- The nodes before this place look alike.
use Rattle.std.proofs.Common.{take}
use Rattle.same_nodes.specs.Same.{RowsLookAlike}
use Rattle.same_nodes.proofs.are_same_rows.Given as goal

abbrev pub invariant-loop-place : goal.invariant-loop-place
invariant-loop-place g l = RowsLookAlike (take l.place l.nodes) (take l.place l.others)
