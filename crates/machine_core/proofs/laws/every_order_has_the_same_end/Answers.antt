-- Events keep the end that a machine has, and one that has its outcome is at its end.
use Rattle.std.proofs.Common.{◌∙◌, sym}
use Rattle.machine_core.specs.Events.{after}
use Rattle.machine_core.proofs.Ends.{end_of-after, end_of-there}
use Rattle.machine_core.proofs.laws.every_order_has_the_same_end.Goals as goal

pub returns-clause-same : goal.returns-clause-same
returns-clause-same c = end_of-after

pub returns-clause-there : goal.returns-clause-there
returns-clause-there c m events sound over = sym (end_of-there (after m events) over) ∙ end_of-after m events sound
