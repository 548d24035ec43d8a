-- The most so far, carried over the nodes that are left, is the most of all.
use Rattle.std.proofs.Common.{◌≡◌, drop}
use Rattle.machine_core.proofs.States.{most_from}
use Rattle.machine_core.proofs.row.work.Given as goal

abbrev pub invariant-loop-rank : goal.invariant-loop-rank
invariant-loop-rank g l = most_from l.most (drop l.rank l.nodes) (drop l.rank l.started) ≡ most_from 0 l.nodes l.started
