-- The events before and after a refusal make together one whole answer of the command.
use Rattle.bsp_debug.proofs.Again.{again}
use Rattle.bsp_debug.proofs.laws.a_refused_command_goes_on.Goals as goal

pub returns : goal.returns
returns c points m command part rest reply sound some made = again points m command part rest reply sound some made
