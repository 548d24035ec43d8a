-- The bytes gone from the front of `rest` are those that were appended.
use Rattle.std.proofs.Common.{◌≡◌, ◌≤◌, ℕ, List, ◌++◌, length}
use Rattle.std.specs.Io.KnownBytes.{Appends}
use Rattle.counted_io.proofs.write_whole.Given as goal

abbrev pub invariant-loop-rest : goal.invariant-loop-rest
invariant-loop-rest g l = record {
  written : (done : List ℕ) × (l.initial.rest ≡ done ++ l.rest) × Appends (g.W.Write.contents l.initial.to.inner)
      (g.W.Write.contents l.to.inner) done;
  untouched : length l.initial.rest ≡ 0 → l.to ≡ l.initial.to;
  failures : l.initial.to.failures ≤ l.to.failures;
}

abbrev pub decreases-loop-rest : goal.decreases-loop-rest
decreases-loop-rest g l = length l.rest
