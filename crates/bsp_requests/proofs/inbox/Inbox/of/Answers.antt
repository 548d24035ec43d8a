-- The sum of the payloads' bytes is taken over the messages that become the queue.
use Rattle.bsp_requests.proofs.Payloads.{is_counted}
use Rattle.bsp_requests.proofs.inbox.Inbox.of.Goals as goal

pub invariant_of-result : goal.invariant_of-result
invariant_of-result g c =
    is_counted _ _ _ _ c.from_vec.ensures.items c.as_slice.ensures.value c.payload_bytes-bytes.ensures c.requires.few c.requires.short
    c.requires.light
