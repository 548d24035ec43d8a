-- Events lead to the machine, which has the end that it had at first; each superstep adds a row, of at most `limit` + 1.
use Rattle.std.proofs.Common.{◌≡◌, ◌+◌, ◌-◌, ◌<◌, length}
use Rattle.std.specs.Prelude.{IsTrue, IsSome}
use Rattle.machine_core.specs.Turn.{end_of}
use Rattle.worker_pool.specs.Phases.{LeadsTo}
use Rattle.worker_pool.proofs.pool.run_with.Given as goal

abbrev pub invariant-loop-landings : goal.invariant-loop-landings
invariant-loop-landings g l = record {
  so_far : LeadsTo l.initial.machine l.machine;
  same_end : end_of l.machine ≡ end_of l.initial.machine;
  over : IsSome l.initial.machine.outcome → l.machine ≡ l.initial.machine;
  no_worker : IsTrue l.landings.thread → (1 < l.team.workers) × (1 < length l.initial.machine.nodes);
}

abbrev pub decreases-loop-landings : goal.decreases-loop-landings
decreases-loop-landings g l = l.machine.settings.limit + 1 - length l.machine.ledger
