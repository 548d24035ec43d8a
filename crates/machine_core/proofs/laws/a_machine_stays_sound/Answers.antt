-- The six parts of the law: soundness holds at the start, and is kept by events, turns, supersteps and the run.
use Rattle.std.proofs.Common.{◌+◌, ap}
use Rattle.std.specs.Prelude.{is_some}
use Rattle.machine_core.specs.Turn.{end_of}
use Rattle.machine_core.proofs.Fresh.{IsSoundMachine-fresh}
use Rattle.machine_core.proofs.Sound.{IsSoundMachine-event, IsSoundMachine-after, IsSoundMachine-turned, IsSoundMachine-superstep}
use Rattle.machine_core.proofs.Sound.{IsSoundMachine-supersteps}
use Rattle.machine_core.proofs.laws.a_machine_stays_sound.Goals as goal

pub returns-clause-start : goal.returns-clause-start
returns-clause-start c image input settings range = IsSoundMachine-fresh image settings input range

pub returns-clause-one : goal.returns-clause-one
returns-clause-one c = IsSoundMachine-event

pub returns-clause-several : goal.returns-clause-several
returns-clause-several c = IsSoundMachine-after

pub returns-clause-turn : goal.returns-clause-turn
returns-clause-turn c m sound none stopped = IsSoundMachine-turned m sound (ap is_some none) stopped

pub returns-clause-whole : goal.returns-clause-whole
returns-clause-whole c = IsSoundMachine-superstep

pub returns-clause-last : goal.returns-clause-last
unfolding end_of
returns-clause-last c m sound = IsSoundMachine-supersteps (m.settings.limit + 1) m sound
