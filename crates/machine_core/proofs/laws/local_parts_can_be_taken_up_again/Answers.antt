-- The three parts of the law: local parts leave a sound machine, leave no node running, and end as ever after steps.
use Rattle.machine_core.proofs.Resume.{phases-sound, phases-stopped, phases-after}
use Rattle.machine_core.proofs.laws.local_parts_can_be_taken_up_again.Goals as goal

pub returns-clause-sound : goal.returns-clause-sound
returns-clause-sound c = phases-sound

pub returns-clause-stopped : goal.returns-clause-stopped
returns-clause-stopped c = phases-stopped

pub returns-clause-again : goal.returns-clause-again
returns-clause-again c = phases-after
