-- After some supersteps the machine is on its way to the same end, and the text has the lines of the supersteps that are over.
use Rattle.std.proofs.Common.{◌≡◌, ◌+◌, ◌-◌, length, string_bytes}
use Rattle.machine_core.specs.Turn.{end_of}
use Rattle.machine_core.proofs.Supersteps.{IsWalked}
use Rattle.exposed_runs.proofs.Rest.{TellsUpTo}
use Rattle.exposed_runs.proofs.runs.run.Given as goal

abbrev pub invariant-loop-alloc : goal.invariant-loop-alloc
invariant-loop-alloc g l = record {
  so_far : IsWalked l.initial.machine l.machine;
  same_end : end_of l.machine ≡ end_of l.initial.machine;
  told : TellsUpTo l.initial.machine l.machine (string_bytes l.initial.text) (string_bytes l.text);
}

abbrev pub decreases-loop-alloc : goal.decreases-loop-alloc
decreases-loop-alloc g l = l.machine.settings.limit + 1 - length l.machine.ledger
