-- The output of the supersteps so far is written.
use Rattle.std.proofs.Common.{◌≡◌, ◌≤◌, ◌+◌, ◌-◌, ℕ, length}
use Rattle.std.specs.Fn.{iterate}
use Rattle.std.specs.Io.KnownBytes.{Appends}
use Rattle.machine_core.specs.Turn.{end_of, superstep}
use Rattle.bsp_session.proofs.plain_live.run_plain_live.Given as goal

abbrev pub invariant-loop-machine : goal.invariant-loop-machine
invariant-loop-machine g l = record {
  so_far : (k : ℕ) × (l.machine ≡ iterate superstep k l.initial.machine);
  same_end : end_of l.machine ≡ end_of l.initial.machine;
  written : Appends (g.W.Write.contents l.initial.out.inner) (g.W.Write.contents l.out.inner) l.machine.output;
  rises : l.initial.out.failures ≤ l.out.failures;
}

abbrev pub decreases-loop-machine : goal.decreases-loop-machine
decreases-loop-machine g l = l.machine.settings.limit + 1 - length l.machine.ledger
