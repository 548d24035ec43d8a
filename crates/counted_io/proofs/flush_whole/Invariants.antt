-- Interrupted flushes change no byte, and each is counted.
use Rattle.std.proofs.Common.{◌<◌, ◌≤◌}
use Rattle.std.specs.Io.KnownBytes.{Keeps}
use Rattle.counted_io.specs.Counted.{HasRisen}
use Rattle.counted_io.proofs.flush_whole.Given as goal

abbrev pub invariant-loop : goal.invariant-loop
invariant-loop g l = record {
  kept : Keeps (g.W.Write.contents l.initial.to.inner) (g.W.Write.contents l.to.inner);
  failures : l.initial.to.failures ≤ l.to.failures;
  risen : 0 < l.counter → HasRisen l.initial.to.failures l.to.failures;
}
