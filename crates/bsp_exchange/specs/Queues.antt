-- Which messages a node finds in the next superstep (BSPlib, Hill and others 1998: `bsp_send`, `bsp_qsize`, `bsp_move`). Their
-- order is an own rule: by the sender's rank and then in the order of issue. A message keeps the tag that it was sent with.
use Rattle.std.specs.Prelude.{ℕ, ◌==◌, not, List, filter, filter_map, if◌then◌else◌, Option, Some, None}
use Rattle.bsp_requests.specs.Message.{Message}
use Rattle.bsp_requests.specs.Request.{Asked, asks_put, asks_get, asks_send}
use Rattle.node_core.specs.Node.{NodeState}
use Rattle.bsp_exchange.specs.Issued.{issued}

-- the message of a request of `sender`, where it is a send to `rank`
abbrev pub message_to : ℕ → ℕ → Asked → Option Message
message_to rank sender (asks_put p) = None
message_to rank sender (asks_get g) = None
message_to rank sender (asks_send m) =
    if m.target == rank then Some (record { sender = sender; tag = m.tag; payload = m.payload }) else None

-- those of a rank's messages that it did not send itself
abbrev pub from_others : ℕ → List Message → List Message
from_others rank messages = filter (λ (m : Message). not (m.sender == rank)) messages

-- the messages that were sent to a rank in this superstep
abbrev pub queue_after : List NodeState → ℕ → List Message
queue_after nodes rank = filter_map (λ i. message_to rank i.rank i.request) (issued nodes)
