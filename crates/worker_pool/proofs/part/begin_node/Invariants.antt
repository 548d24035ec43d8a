-- The node has made some steps of its own; what is left is no more than its share, and falls each time.
use Rattle.std.proofs.Common.{◌≡◌, ℕ, ◌≤◌}
use Rattle.node_core.specs.Node.{local_steps}
use Rattle.worker_pool.proofs.part.begin_node.Given as goal

abbrev pub invariant-loop-left : goal.invariant-loop-left
invariant-loop-left g l = record {
  few : l.left ≤ l.share.steps;
  stepped : (k : ℕ) × (l.node.node ≡ local_steps l.input k l.initial.node.node);
}

abbrev pub decreases-loop-left : goal.decreases-loop-left
decreases-loop-left g l = l.left
