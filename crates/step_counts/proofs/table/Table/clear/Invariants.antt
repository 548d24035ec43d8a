-- The cells below this address are empty, and those beyond the highest one have always been.
use Rattle.std.proofs.Common.{◌≡◌, ◌<◌, ◌≤◌, ℕ, length}
use Rattle.std.specs.Prelude.{slice_index}
use Rattle.step_counts.proofs.table.Table.clear.Given as goal

abbrev pub invariant-loop-address : goal.invariant-loop-address
invariant-loop-address g l = record {
  size : length l.self-inside.cells.items ≡ length l.initial.self-inside.cells.items;
  memory : l.self-inside.memory ≡ l.initial.self-inside.memory;
  high : l.self-inside.high ≡ l.initial.self-inside.high;
  below : (k : ℕ) → k < l.address → slice_index l.self-inside.cells.items k ≡ 0;
  above : (k : ℕ) → l.initial.self-inside.high ≤ k → slice_index l.self-inside.cells.items k ≡ 0;
}
