-- Events keep the end of a sound machine, and those without a turn keep the end of its local parts.
use Rattle.std.proofs.Common.{ap, ◌∙◌}
use Rattle.machine_core.specs.Turn.{with_phases, end_of}
use Rattle.machine_core.proofs.Ends.{end_of-after}
use Rattle.machine_core.proofs.Resume.{phases-after}
use Rattle.worker_pool.proofs.laws.a_refused_run_ends_the_same.Goals as goal

pub returns-clause-run : goal.returns-clause-run
returns-clause-run c m n sound reached = ap end_of reached.1 ∙ end_of-after m reached.0 sound

pub returns-clause-phase : goal.returns-clause-phase
returns-clause-phase c m n sound reached = ap with_phases reached.2 ∙ phases-after m reached.0 sound reached.1
