-- A search from the end finds the last entry of the address, as the definition does.
use Rattle.std.proofs.Common.{rules}
use Rattle.bsp_slots.proofs.Positions.{last_position-from}
use Rattle.bsp_slots.proofs.area.last_position.Goals as goal

pub returns : goal.returns
returns c =
    last_position-from c.args.entries.now c.args.addr c.rposition.result
    (λ i e. record { within = search rules; here = λ d. search rules; later = λ k d from within. search rules })
    (λ e k d within. search rules)
