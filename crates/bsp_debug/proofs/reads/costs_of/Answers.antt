-- The rows of the reply are those of the machine's ledger.
use Rattle.std.proofs.Common.{◌∙◌, ap}
use Rattle.bsp_debug.specs.Reply.{costs}
use Rattle.bsp_debug.proofs.reads.costs_of.Goals as goal

pub returns : goal.returns
returns g c = ap costs (c.from_vec.ensures ∙ c.in_ok-rows.ensures.items ∙ c.rows.ensures ∙ c.ledger.ensures)
