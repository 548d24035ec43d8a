-- The table is still open, and the keeper knows that all nodes have come.
use Rattle.std.proofs.Common.{◌≡◌, []}
use Rattle.claim_table.specs.ClaimSteps.{keeper_view}
use Rattle.claim_table.proofs.keeper.seal.Given as goal

-- the table is open yet
abbrev pub invariant-loop : goal.invariant-loop
invariant-loop g l = record {
  can_next : (goal.iterator-loop g).can_next l.iterator';
  is_finite : (goal.iterator-loop g).is_finite l.iterator';
  seated : (l.seat.table_id ≡ l.shared.table_id) × (l.seat.me ≡ (keeper_view l.ranks, []));
}
