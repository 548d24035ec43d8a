-- Two inboxes that are equally long and have the same message at each place are the same.
use Rattle.std.proofs.Common.{arith}
use Rattle.same_nodes.proofs.Lists.{same-lists}
use Rattle.same_nodes.proofs.have_same_messages.Goals as goal

pub returns : goal.returns
returns g c = λ holds. same-lists c.args.inbox.now c.args.other.now
    (omega (arith, c.count.ensures.value, c.count-2.ensures.value, c.if-count.false))
    (λ k below. c.loop-place.invariant k (omega (arith, below, c.count-place-end.ensures.value, c.loop-place-test.false)))
