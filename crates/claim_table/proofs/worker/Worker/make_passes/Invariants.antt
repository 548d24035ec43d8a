-- Between passes the worker has no node; each pass takes some of the allowance.
use Rattle.std.proofs.Common.{◌≡◌, []}
use Rattle.claim_table.specs.ClaimSteps.{view_at_work}
use Rattle.claim_table.proofs.worker.Worker.make_passes.Given as goal

abbrev pub invariant-loop-left : goal.invariant-loop-left
invariant-loop-left g l = l.self.seat.me ≡ (view_at_work, [])

abbrev pub decreases-loop-left : goal.decreases-loop-left
decreases-loop-left g l = l.left
