-- Between two passes `go` is under way: it has met no stop, the machine has no outcome, and the trace began where it did.
use Rattle.std.proofs.Common.{◌≡◌, ◌+◌, ◌-◌, None, length}
use Rattle.bsp_debug.specs.Going.{IsGoing}
use Rattle.bsp_debug.specs.Trace.{EndsBelow}
use Rattle.bsp_debug.proofs.trace.Trace.go.Given as goal

abbrev pub invariant-loop-point : goal.invariant-loop-point
invariant-loop-point g l = record {
  going : IsGoing l.points l.self;
  outcome : l.self.machine.outcome ≡ None;
  order : EndsBelow 0 l.self.made;
  start : l.self.start ≡ l.initial.self.start;
}

abbrev pub decreases-loop-point : goal.decreases-loop-point
decreases-loop-point g l = l.self.machine.settings.limit + 1 - length l.self.machine.ledger
