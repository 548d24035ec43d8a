-- The registrations that are compared are those of the two nodes, so the nodes have the same shape if the comparison says so.
use Rattle.bsp_exchange.proofs.Lookups.{shapes_compared}
use Rattle.bsp_exchange.proofs.checks.have_same_shape.Goals as goal

pub returns : goal.returns
returns g c =
    shapes_compared c.slots.result.now.registrations c.slots-2.result.now.registrations _ _ c.same_shape.result
    c.slots.ensures.registrations c.slots-2.ensures.registrations c.same_shape.ensures
