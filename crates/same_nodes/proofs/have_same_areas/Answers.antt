-- Two lists of areas that are equally long and have the same area at each slot are the same list.
use Rattle.std.proofs.Common.{arith}
use Rattle.same_nodes.proofs.Lists.{same-lists}
use Rattle.same_nodes.proofs.have_same_areas.Goals as goal

pub returns : goal.returns
returns g c = λ holds. same-lists c.args.slots.now.registrations.in_effect c.args.others.now.registrations.in_effect
    (omega (arith, c.count.ensures.len, c.count-2.ensures.len, c.if-count.false))
    (λ k below. c.loop-slot.invariant k (omega (arith, below, c.count-slot-end.ensures.len, c.loop-slot-test.false)))
