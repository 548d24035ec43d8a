-- The message that is pushed has its sender, and clones with the bytes of tag and payload; what else arrives stays as it is.
use Rattle.std.proofs.Common.{rules}
use Rattle.bsp_exchange.proofs.arrivals.Arrivals.add_message.Goals as goal

pub returns : goal.returns
returns g c = search rules
