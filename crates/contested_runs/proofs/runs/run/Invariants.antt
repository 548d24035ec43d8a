-- After some supersteps the machine is on its way to the same end, and the text has the lines of the supersteps that are over.
use Rattle.std.proofs.Common.{◌≡◌, ◌+◌, ◌-◌, length}
use Rattle.std.specs.Prelude.{IsSome}
use Rattle.machine_core.specs.Turn.{end_of}
use Rattle.worker_pool.specs.Phases.{LeadsTo}
use Rattle.contested_runs.proofs.Rest.{TellsUpTo}
use Rattle.contested_runs.proofs.runs.run.Given as goal

abbrev pub invariant-loop-machine : goal.invariant-loop-machine
invariant-loop-machine g l = record {
  so_far : LeadsTo l.initial.machine l.machine;
  same_end : end_of l.machine ≡ end_of l.initial.machine;
  told : TellsUpTo l.initial.machine l.machine l.initial.told l.told;
  over : IsSome l.initial.machine.outcome → (l.machine ≡ l.initial.machine) × (l.told ≡ l.initial.told);
}

abbrev pub decreases-loop-machine : goal.decreases-loop-machine
decreases-loop-machine g l = l.machine.settings.limit + 1 - length l.machine.ledger
