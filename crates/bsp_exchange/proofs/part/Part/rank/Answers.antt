-- The field is the rank of the value that contracts see.
use Rattle.std.proofs.Common.{ap}
use Rattle.bsp_exchange.specs.Parts.{PartState}
use Rattle.bsp_exchange.proofs.part.Part.rank.Goals as goal

pub returns : goal.returns
returns g c = ap (λ (part : PartState). part.rank) c.self.view_is
