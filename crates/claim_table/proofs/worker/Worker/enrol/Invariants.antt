-- The worker is not counted yet.
use Rattle.std.proofs.Common.{◌≡◌, []}
use Rattle.claim_table.specs.ClaimSteps.{view_away}
use Rattle.claim_table.proofs.worker.Worker.enrol.Given as goal

abbrev pub invariant-loop : goal.invariant-loop
invariant-loop g l = l.self.seat.me ≡ (view_away, [])
