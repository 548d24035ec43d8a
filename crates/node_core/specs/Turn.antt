-- A node at the end of a superstep: what the exchange lands in its memory, and the node at the start of the next superstep
-- (BSPlib, Hill and others 1998: `bsp_sync`; `bsp_push_reg`, `bsp_pop_reg` and `bsp_set_tagsize` take effect there).
use Rattle.std.specs.Prelude.{ℕ, List}
use Rattle.node_memory.specs.Bytes.{with_bytes}
use Rattle.bsp_slots.specs.Registrations.{turned}
use Rattle.bsp_requests.specs.Message.{Message}
use Rattle.bsp_requests.specs.Requests.{no_requests}
use Rattle.node_core.specs.declared.state.State.TheVariants.{Running}
use Rattle.node_core.specs.Communication.{Communication}
use Rattle.node_core.specs.Hart.{with_memory}
use Rattle.node_core.specs.Node.{NodeState, state_at}

-- a node with `bytes` in the place of as many in its memory, from `addr` on
abbrev pub landed : ℕ → List ℕ → NodeState → NodeState
landed addr bytes s = record s { hart = with_memory (with_bytes s.hart.memory addr bytes) s.hart }

-- what a node communicates at the start of the next superstep: the next list of areas and the next tag size are in effect,
-- nothing is asked for or written, and the queue has the messages that were sent to it. Those that it left unread are gone
abbrev pub next_communication : List Message → Communication → Communication
next_communication queue c = record {
  registrations = turned c.registrations;
  requests = no_requests c.requests.large;
  queue = queue;
  tag_size = c.next_tag_size;
  next_tag_size = c.next_tag_size;
}

-- a node at the start of the next superstep: it runs on, or it is exhausted where it has no tick left
abbrev pub next_superstep : List Message → NodeState → NodeState
next_superstep queue s = record s {
  hart = record s.hart { communication = next_communication queue s.hart.communication };
  state = state_at Running s.ticks s.limit;
}
