-- The count is the length of the first node's list in effect; without a first node there is nothing to show.
use Rattle.std.proofs.Common.{length, ap, ◌∙◌}
use Rattle.std.proofs.lemmas.Option.{none-some, same_Some}
use Rattle.bsp_slots.specs.Registrations.{Registrations}
use Rattle.node_core.specs.Node.{PreparedNode}
use Rattle.bsp_exchange.proofs.sync.areas_of_first.Goals as goal

pub returns-in-Some : goal.returns-in-Some
returns-in-Some g c p is =
    c.count.ensures.len
    ∙ ap (λ (r : Registrations). length r.in_effect) c.slots.ensures.registrations
    ∙ ap (λ (q : PreparedNode). length q.node.hart.communication.registrations.in_effect)
    (same_Some c.in-Some.node.now p (c.in-Some.ensures.value ∙ is))

pub returns-in-None : goal.returns-in-None
returns-in-None g c p is = absurd (none-some p (c.in-None.ensures.value ∙ is))
