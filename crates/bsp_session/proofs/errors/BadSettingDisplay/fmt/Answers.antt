-- The text that is written is the name of what is wrong with the setting.
use Rattle.std.proofs.Common.{rules}
use Rattle.bsp_session.proofs.errors.BadSettingDisplay.fmt.Goals as goal

pub returns-clause-writes : goal.returns-clause-writes
returns-clause-writes g c = search rules
