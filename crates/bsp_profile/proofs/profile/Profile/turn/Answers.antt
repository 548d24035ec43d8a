-- The machine's turn is enabled, so what was made is the turn.
use Rattle.std.proofs.Common.{◌∙◌}
use Rattle.machine_core.specs.declared.event.Event.TheVariants.{Turn}
use Rattle.machine_core.proofs.Steps.{event-enabled}
use Rattle.bsp_profile.proofs.profile.Profile.turn.Goals as goal

pub returns-clause-machine : goal.returns-clause-machine
returns-clause-machine g c = c.in_default.ensures.ok ∙ event-enabled c.args.machine.now Turn c.requires
