-- What was read so far is what the reader lost, and stays within the limit, so each read comes nearer to it.
use Rattle.std.proofs.Common.{◌≡◌, ◌≤◌, ◌-◌, length, vec_len}
use Rattle.std.specs.Io.KnownBytes.{Consumes}
use Rattle.counted_io.specs.declared.TheConstants.{CHUNK}
use Rattle.counted_io.proofs.read_at_most.Given as goal

abbrev pub invariant-loop-input : goal.invariant-loop-input
invariant-loop-input g l = record {
  limit : vec_len l.input ≤ l.most;
  room : length l.chunk ≡ CHUNK;
  consumed : Consumes (g.R.Read.remaining l.initial.from.inner) (g.R.Read.remaining l.from.inner) l.input.items;
  failures : l.initial.from.failures ≤ l.from.failures;
}

abbrev pub decreases-loop-input : goal.decreases-loop-input
decreases-loop-input g l = l.most - vec_len l.input
