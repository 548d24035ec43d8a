-- After some supersteps the machine is on its way to the same end, and the text with the lines that are left is the whole.
use Rattle.std.proofs.Common.{◌≡◌, ◌+◌, ◌-◌, ◌++◌, length, string_bytes}
use Rattle.machine_core.specs.Turn.{end_of}
use Rattle.machine_core.proofs.Supersteps.{IsWalked}
use Rattle.step_counts.specs.Counts.{lines_of}
use Rattle.step_counts.proofs.runs.run.Given as goal

abbrev pub invariant-loop-machine : goal.invariant-loop-machine
invariant-loop-machine g l = record {
  so_far : IsWalked l.initial.machine l.machine;
  same_end : end_of l.machine ≡ end_of l.initial.machine;
  lines : string_bytes l.text ++ lines_of l.machine ≡ string_bytes l.initial.text ++ lines_of l.initial.machine;
  memory : l.table.memory ≡ l.machine.settings.memory;
}

abbrev pub decreases-loop-machine : goal.decreases-loop-machine
decreases-loop-machine g l = l.machine.settings.limit + 1 - length l.machine.ledger
