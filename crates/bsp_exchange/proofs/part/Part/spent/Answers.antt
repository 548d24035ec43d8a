-- The field says whether the value that contracts see is spent.
use Rattle.std.proofs.Common.{ap}
use Rattle.bsp_exchange.specs.Parts.{PartState}
use Rattle.bsp_exchange.proofs.part.Part.spent.Goals as goal

pub returns : goal.returns
returns g c = ap (λ (part : PartState). part.spent) c.self.view_is
