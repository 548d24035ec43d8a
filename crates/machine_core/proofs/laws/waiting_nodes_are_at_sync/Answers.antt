-- In a sound machine, nodes that neither run, were stopped nor ended wait at the places of their ranks.
use Rattle.machine_core.proofs.Sound.{AreAtSync-from}
use Rattle.machine_core.proofs.laws.waiting_nodes_are_at_sync.Goals as goal

pub returns : goal.returns
returns c = AreAtSync-from
