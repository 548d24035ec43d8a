-- The events of the walk lead on; and what holds of any events, of their end and their phases, holds of these.
use Rattle.std.proofs.Common.{refl, ap, ◌∙◌}
use Rattle.machine_core.specs.Turn.{with_phases}
use Rattle.machine_core.specs.Walk.{walk}
use Rattle.machine_core.proofs.Ends.{end_of-after}
use Rattle.machine_core.proofs.Resume.{phases-after}
use Rattle.machine_core.proofs.Walks.{walked-over}
use Rattle.machine_core.proofs.laws.a_refused_run_resumes.Goals as goal

pub returns-clause-reached : goal.returns-clause-reached
returns-clause-reached c m k = (walk k m, refl)

pub returns-clause-same_end : goal.returns-clause-same_end
returns-clause-same_end c m k sound = end_of-after m (walk k m) sound

pub returns-clause-same_phases : goal.returns-clause-same_phases
returns-clause-same_phases c m n sound on = ap with_phases on.is ∙ phases-after m (walk on.made m) sound on.steps

pub returns-clause-over : goal.returns-clause-over
returns-clause-over c = walked-over
