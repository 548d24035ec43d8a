-- The nodes from this rank on are still in the row, the last one first, and those before it have come to the table.
use Rattle.std.proofs.Common.{◌≡◌, ◌+◌, [], drop}
use Rattle.std.specs.Prelude.{reverse, vec_len, vec_capacity}
use Rattle.claim_table.specs.ClaimSteps.{keeper_view}
use Rattle.claim_table.proofs.keeper.fill_all.Given as goal

-- the nodes from this rank on are in the row yet, the last one first
abbrev pub invariant-loop-node : goal.invariant-loop-node
invariant-loop-node g l = record {
  left : l.row.items ≡ reverse (drop l.rank l.fn.row.items);
  count : l.rank + vec_len l.row ≡ vec_len l.fn.row;
  seated : (l.seat.table_id ≡ l.fn.shared.table_id) × (l.seat.me ≡ (keeper_view l.rank, []));
  room : vec_capacity l.row ≡ vec_capacity l.fn.row;
}

abbrev pub decreases-loop-node : goal.decreases-loop-node
decreases-loop-node g l = vec_len l.row
