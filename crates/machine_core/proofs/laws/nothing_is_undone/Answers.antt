-- Event by event, the machine goes onward.
use Rattle.machine_core.proofs.Onward.{onward_after}
use Rattle.machine_core.proofs.laws.nothing_is_undone.Goals as goal

pub returns : goal.returns
returns c = onward_after
