-- The clocks of the nodes before this rank are set, and the nodes from it on are as they were.
use Rattle.std.proofs.Common.{◌≡◌, ◌++◌, map, take, drop}
use Rattle.machine_core.proofs.Clocks.{clock_set}
use Rattle.machine_core.proofs.clock.set_clocks.Given as goal

-- the clocks of the nodes before this rank are set, and the others are as they were
abbrev pub invariant-loop-rank : goal.invariant-loop-rank
invariant-loop-rank g l = l.nodes ≡ map (clock_set l.closed) (take l.rank l.fn.nodes) ++ drop l.rank l.fn.nodes
