-- The machine is on its walk, with the end that it had at first; each superstep adds a row, of which there are at most `limit` + 1.
use Rattle.std.proofs.Common.{◌≡◌, ◌+◌, ◌-◌, length}
use Rattle.machine_core.specs.Turn.{end_of}
use Rattle.machine_core.proofs.Supersteps.{IsWalked}
use Rattle.machine_core.proofs.machine.Machine.run_plain.Given as goal

abbrev pub invariant-loop-self : goal.invariant-loop-self
invariant-loop-self g l = record {
  so_far : IsWalked l.initial.self l.self;
  same_end : end_of l.self ≡ end_of l.initial.self;
}

abbrev pub decreases-loop-self : goal.decreases-loop-self
decreases-loop-self g l = l.self.settings.limit + 1 - length l.self.ledger
