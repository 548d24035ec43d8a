-- The nodes below this rank have stopped, all others stand where the phase began, and `go` has met no stop.
use Rattle.std.proofs.Common.{◌≡◌, None}
use Rattle.machine_core.proofs.Phased.{IsPhasing}
use Rattle.bsp_debug.specs.Going.{IsGoing}
use Rattle.bsp_debug.specs.Trace.{IsTrace, EndsBelow}
use Rattle.bsp_debug.proofs.trace.Trace.go_through_phase.Given as goal

abbrev pub invariant-loop-rank : goal.invariant-loop-rank
invariant-loop-rank g l = record {
  trace : IsTrace l.self;
  phasing : IsPhasing l.initial.self.machine l.self.machine l.rank;
  settings : l.self.machine.settings ≡ l.initial.self.machine.settings;
  going : IsGoing l.points l.self;
  outcome : l.self.machine.outcome ≡ None;
  order : EndsBelow l.rank l.self.made;
  start : l.self.start ≡ l.initial.self.start;
}
