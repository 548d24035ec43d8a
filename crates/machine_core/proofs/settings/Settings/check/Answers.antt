-- The tests come in the order of the definition, so the first that fails names the first fault.
use Rattle.std.proofs.Common.{rules}
use Rattle.machine_core.proofs.settings.Settings.check.Goals as goal

pub returns : goal.returns
returns c = search rules
