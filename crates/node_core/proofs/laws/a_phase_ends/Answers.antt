-- A node does as many steps as it has ticks left, and then it has stopped, so that another phase changes nothing.
use Rattle.std.proofs.Common.{◌-◌, arith}
use Rattle.node_core.proofs.Sound.{local_steps-end, phase-phase}
use Rattle.node_core.proofs.laws.a_phase_ends.Goals as goal

pub returns-clause-stopped : goal.returns-clause-stopped
returns-clause-stopped c input s sound = local_steps-end input (s.limit - s.ticks) s sound (omega arith)

pub returns-clause-again : goal.returns-clause-again
returns-clause-again c = phase-phase
