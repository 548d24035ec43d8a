-- After some supersteps the machine is on its walk to the same end, and the profile with the lines that are left is the whole.
use Rattle.std.proofs.Common.{◌≡◌, ◌+◌, ◌-◌, ◌++◌, length}
use Rattle.std.specs.Prelude.{IsSome}
use Rattle.machine_core.specs.Turn.{end_of}
use Rattle.machine_core.proofs.Supersteps.{IsWalked}
use Rattle.bsp_profile.specs.Lines.{lines_of}
use Rattle.bsp_profile.proofs.runs.run_plain.Given as goal

abbrev pub invariant-loop-machine : goal.invariant-loop-machine
invariant-loop-machine g l = record {
  so_far : IsWalked l.initial.machine l.machine;
  same_end : end_of l.machine ≡ end_of l.initial.machine;
  lines : l.profile ++ lines_of l.machine ≡ l.initial.profile ++ lines_of l.initial.machine;
  over : IsSome l.initial.machine.outcome → (l.machine ≡ l.initial.machine) × (l.profile ≡ l.initial.profile);
}

abbrev pub decreases-loop-machine : goal.decreases-loop-machine
decreases-loop-machine g l = l.machine.settings.limit + 1 - length l.machine.ledger
