-- The stages of an exchange that are shared out by runs of ranks: nodes are prepared for their parts, and these land. A share is some nodes
-- of a row, with the part of each at the same place. BSPlib (Hill and others, 1998: `bsp_sync`) leaves open who moves the bytes.
use Rattle.std.specs.Prelude.{◌≡◌, ℕ, ◌+◌, ◌-◌, ◌<◌, ◌≤◌, ◌⊎◌, Bool, List, [], length, IsTrue, IsFalse, None}
use Rattle.std.specs.List.{AllZip}
use Rattle.node_core.specs.Node.{PreparedNode}
use Rattle.bsp_exchange.specs.Exchange.{states}
use Rattle.bsp_exchange.specs.Parts.{PartState, CanLand, CanPrepare, landed}
use Rattle.machine_core.specs.declared.event.Event.TheVariants.{Turn}
use Rattle.machine_core.specs.Events.{event}
use Rattle.machine_core.specs.Machine.{MachineState}
use Rattle.worker_pool.specs.declared.landing.Stage.{Stage}
use Rattle.worker_pool.specs.declared.landing.Stage.TheVariants.{Prepare, Land}
use Rattle.worker_pool.specs.declared.pool.Turned.{Turned}

-- each part has landed in the node at its place
abbrev pub HaveLanded : List PartState → List PreparedNode → List PreparedNode → Type 0
HaveLanded parts old new = states new ≡ landed parts (states old)

-- what a stage of an exchange wants: each node can be prepared for the part at its place, or the part can land there
abbrev pub IsReadyFor : Stage → List PartState → List PreparedNode → Type 0
IsReadyFor Prepare parts nodes = AllZip CanPrepare parts (states nodes)
IsReadyFor Land parts nodes = AllZip CanLand parts nodes

-- what it leaves: the nodes' states and the parts as they were, and where it is complete, each part can land; or the nodes in which the
-- parts have landed, and none of these
abbrev pub IsDone : Stage → List PartState → List PreparedNode → List PartState → List PreparedNode → Bool → Type 0
IsDone Prepare parts nodes parts' nodes' complete =
    (parts' ≡ parts) × (states nodes' ≡ states nodes) × (IsTrue complete → AllZip CanLand parts' nodes')
IsDone Land parts nodes parts' nodes' complete = (parts' ≡ []) × HaveLanded parts nodes nodes'

-- the nodes of a stage before the last of so many runs, and those of that run: no run before it is without a node, all are ready for the
-- stage, and the last nodes and parts find room behind those before them
pub record AreApart (stage : Stage) (runs node_room part_room : ℕ) (parts : List PartState) (nodes : List PreparedNode)
    (last_parts : List PartState) (last_nodes : List PreparedNode) : Type 0 where
  pub some : 1 < runs
  pub enough : runs - 1 ≤ length nodes
  pub nodes_fit : length nodes + length last_nodes ≤ node_room
  pub parts_fit : length parts + length last_parts ≤ part_room
  pub ready : IsReadyFor stage parts nodes
  pub last_ready : IsReadyFor stage last_parts last_nodes

-- a machine after its turn was to be made, with an exchange in stages by so many workers. It is made whole, whatever threads and room
-- these were refused, or memory was refused and nothing has changed. Where a stage was refused something, there was an exchange, and
-- so there is no outcome; a thread is wanted only where there are several workers and several nodes
pub record IsTurnMade (workers : ℕ) (old new : MachineState) (turned : Turned) : Type 0 where
  pub ok : IsTrue turned.is_made → new ≡ event old Turn
  pub err : IsFalse turned.is_made → (new ≡ old) × IsTrue turned.refused.memory
  pub going : IsTrue turned.is_made → IsTrue turned.refused.thread ⊎ IsTrue turned.refused.memory → new.outcome ≡ None
  pub no_worker : IsTrue turned.refused.thread → (1 < workers) × (1 < length old.nodes)
