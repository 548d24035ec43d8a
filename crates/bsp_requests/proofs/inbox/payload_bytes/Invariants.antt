-- Each of the messages so far has fewer than 2^64 bytes.
use Rattle.std.proofs.Common.{◌≡◌, ◌≤◌, ◌*◌, ◌-◌, ◌^◌, take}
use Rattle.bsp_requests.specs.Inbox.{payload_bytes}
use Rattle.bsp_requests.proofs.inbox.payload_bytes.Given as goal

abbrev pub invariant-loop-message : goal.invariant-loop-message
invariant-loop-message g l =
    (l.bytes ≤ l.message-index * (2 ^ 64 - 1)) × (l.bytes ≡ payload_bytes (take l.message-index l.messages))
