-- The nodes below this rank have stopped, all others stand where the phase began, and the entries are the steps made so far.
use Rattle.std.proofs.Common.{◌≡◌, ◌*◌, ◌≤◌, ◌^◌, length}
use Rattle.machine_core.specs.Events.{after}
use Rattle.machine_core.proofs.Phased.{IsPhasing}
use Rattle.bsp_debug.specs.Debugger.{IsWithinPhases}
use Rattle.bsp_debug.specs.Made.{events_of}
use Rattle.bsp_debug.specs.Trace.{IsTrace, EndsBelow}
use Rattle.bsp_debug.proofs.trace.Trace.phase.Given as goal

abbrev pub invariant-loop-rank : goal.invariant-loop-rank
invariant-loop-rank g l = record {
  trace : IsTrace l.self;
  phasing : IsPhasing l.initial.self.machine l.self.machine l.rank;
  settings : l.self.machine.settings ≡ l.initial.self.machine.settings;
  here : l.self.machine ≡ after l.initial.self.machine (events_of l.self.made);
  within : IsWithinPhases l.initial.self.machine (events_of l.self.made);
  order : EndsBelow l.rank l.self.made;
  moved : l.moved ≡ length (events_of l.self.made);
  few : l.moved ≤ l.rank * 2 ^ 40;
  start : l.self.start ≡ l.initial.self.start;
}
