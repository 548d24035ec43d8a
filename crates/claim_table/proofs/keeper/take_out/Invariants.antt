-- What lay in the slots before this rank is in the row, and the slots from it on are still full.
use Rattle.std.proofs.Common.{◌≡◌, ℕ, ◌<◌, ◌≤◌, true, false, length, map, take, Some}
use Rattle.std.specs.Prelude.{vec_capacity, slice_index_or}
use Rattle.core.specs.Mem.Slots.{slots_items, slots_len, slots_filled}
use Rattle.claim_table.proofs.keeper.take_out.Given as goal

-- what lay in the slots before this place is in the row, and the others are full yet
abbrev pub invariant-loop-rank : goal.invariant-loop-rank
invariant-loop-rank g l = record {
  slots : slots_len l.closed.slots ≡ slots_len l.initial.closed.slots;
  items : slots_items l.closed.slots ≡ slots_items l.initial.closed.slots;
  taken : (k : ℕ) → k < l.rank → slice_index_or (slots_filled l.closed.slots) k false ≡ false;
  left : (k : ℕ) → l.rank ≤ k → k < slots_len l.closed.slots → slice_index_or (slots_filled l.closed.slots) k false ≡ true;
  so_far : map (λ x. Some x) l.room.items ≡ take l.rank (slots_items l.initial.closed.slots);
  long : length l.room.items ≡ l.rank;
  room : vec_capacity l.room ≡ vec_capacity l.initial.room;
}
