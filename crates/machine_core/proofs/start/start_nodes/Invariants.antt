-- The nodes of the ranks below this one are there, the first among them.
use Rattle.std.proofs.Common.{◌≤◌}
use Rattle.machine_core.proofs.Starts.{AreFirst}
use Rattle.machine_core.proofs.start.start_nodes.Given as goal

-- the nodes of the ranks below this one are there
abbrev pub invariant-loop-rank : goal.invariant-loop-rank
invariant-loop-rank g l = record {
  some : 1 ≤ l.rank;
  made : AreFirst l.image l.settings l.nodes.items l.rank;
}
