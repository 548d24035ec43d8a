-- What is left of the queue has as many bytes fewer as the payload of the first message has.
use Rattle.bsp_requests.proofs.Payloads.{rest_is_counted}
use Rattle.std.proofs.Common.{ap, length}
use Rattle.bsp_requests.proofs.inbox.Inbox.take_first.Goals as goal

pub invariant_of-self-2 : goal.invariant_of-self-2
invariant_of-self-2 g c =
    rest_is_counted _ _ _ _ _ c.in_ok-first.ensures.items (ap length c.payload.ensures) c.self.invariant
