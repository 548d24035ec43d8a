-- The nodes before this rank have made their local parts, no other has made a step, and the settings are kept.
use Rattle.std.proofs.Common.{◌≡◌}
use Rattle.machine_core.proofs.Phased.{IsPhasing}
use Rattle.machine_core.proofs.machine.Machine.run_phase_plain.Given as goal

abbrev pub invariant-loop-rank : goal.invariant-loop-rank
invariant-loop-rank g l = record {
  phasing : IsPhasing l.initial.self l.self l.rank;
  settings : l.self.settings ≡ l.initial.self.settings;
}
