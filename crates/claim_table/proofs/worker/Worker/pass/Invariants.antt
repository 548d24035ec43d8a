-- Between ranks the worker has no node, and the pass took no more of them than it may.
use Rattle.std.proofs.Common.{◌≡◌, ◌≤◌, []}
use Rattle.claim_table.specs.ClaimSteps.{view_at_work}
use Rattle.claim_table.proofs.worker.Worker.pass.Given as goal

abbrev pub invariant-loop-at : goal.invariant-loop-at
invariant-loop-at g l = record {
  idle : l.self.seat.me ≡ (view_at_work, []);
  ranks : l.self.ranks ≡ l.initial.self.ranks;
  end : l.at-end ≡ l.initial.self.ranks;
  few : l.taken ≤ l.most;
}
