-- The exchange at the end of a superstep (BSPlib, Hill and others 1998: `bsp_sync`).
use Rattle.std.specs.Prelude.{◌≡◌, ℕ, false, List, length, map, All}
use Rattle.std.specs.List.{range_with_len}
use Rattle.node_core.specs.declared.state.State.TheVariants.{Synced}
use Rattle.node_core.specs.Hart.{with_memory}
use Rattle.node_core.specs.Node.{NodeState, PreparedNode}
use Rattle.node_core.specs.Turn.{next_superstep}
use Rattle.bsp_exchange.specs.Landings.{landings_at, memory_after}
use Rattle.bsp_exchange.specs.Queues.{queue_after}

-- the nodes of a machine, each at the place of its rank, all of them waiting, with equally many areas in effect
pub record AreAtSync (nodes : List NodeState) : Type 0 where
  pub ranks : map (λ n. n.hart.rank) nodes ≡ range_with_len 0 (length nodes)
  pub counts : All (λ n. n.hart.nprocs ≡ length nodes) nodes
  pub waiting : All (λ n. n.state ≡ Synced) nodes
  pub areas : (count : ℕ) × All (λ n. length n.hart.communication.registrations.in_effect ≡ count) nodes

-- a node with what lands in its memory
abbrev pub with_landings : List NodeState → NodeState → NodeState
with_landings nodes n = record n { hart = with_memory (memory_after (landings_at nodes n.hart.rank) n.hart.memory) n.hart }

-- a node after the exchange among `nodes`
abbrev pub exchanged_node : List NodeState → NodeState → NodeState
exchanged_node nodes n = next_superstep (queue_after nodes n.hart.rank) (with_landings nodes n)

abbrev pub exchanged : List NodeState → List NodeState
exchanged nodes = map (exchanged_node nodes) nodes

-- the nodes, whatever room is made for their turns, and whichever pages are private
abbrev pub states : List PreparedNode → List NodeState
states prepared = map (λ (p : PreparedNode). p.node) prepared

-- for the next turn of none of the nodes is room made
abbrev pub AreUnready : List PreparedNode → Type 0
AreUnready prepared = All (λ (p : PreparedNode). p.ready ≡ false) prepared
