-- Interrupted reads consume nothing, and each is counted.
use Rattle.std.proofs.Common.{◌<◌, ◌≤◌}
use Rattle.std.specs.Io.KnownBytes.{Keeps}
use Rattle.counted_io.specs.Counted.{HasRisen}
use Rattle.counted_io.proofs.read_retrying.Given as goal

abbrev pub invariant-loop : goal.invariant-loop
invariant-loop g l = record {
  kept : Keeps (g.R.Read.remaining l.initial.from.inner) (g.R.Read.remaining l.from.inner);
  failures : l.initial.from.failures ≤ l.from.failures;
  risen : 0 < l.counter → HasRisen l.initial.from.failures l.from.failures;
}
