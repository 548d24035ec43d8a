-- What always holds of a machine.
use Rattle.std.specs.Prelude.{◌≡◌, ℕ, ◌+◌, ◌^◌, ◌<◌, ◌≤◌, false, length, map, All, IsTrue, IsSome, is_some, None, if◌then◌else◌}
use Rattle.std.specs.List.{range_with_len, AllZip}
use Rattle.node_memory.specs.Bytes.{is_memory_size}
use Rattle.node_core.specs.declared.state.State.TheVariants.{Synced}
use Rattle.node_core.specs.Communication.{HasLimits}
use Rattle.node_core.specs.Node.{NodeState, IsSoundNode}
use Rattle.machine_core.specs.declared.settings.Settings.{Settings}
use Rattle.machine_core.specs.Clock.{HasClock}
use Rattle.machine_core.specs.Machine.{MachineState, most_nodes, most_memory}
use Rattle.machine_core.specs.Events.{some_runs}

-- settings of a machine that can be made (own limits)
pub record AreInRange (s : Settings) : Type 0 where
  pub some : 0 < s.nodes
  pub few : s.nodes ≤ most_nodes s.large
  pub memory : IsTrue (is_memory_size s.memory)
  pub small : s.memory ≤ most_memory s.large
  pub ticks : 0 < s.limit
  pub limit : s.limit ≤ 2 ^ 40

-- a sound node with the machine's number of nodes, size of memory and limits, and with a unit of floating point and the instructions of A
-- where the machine has them
pub record IsNodeOf (s : Settings) (n : NodeState) : Type 0 where
  pub nodes : n.hart.nprocs ≡ s.nodes
  pub memory : length n.hart.memory ≡ s.memory
  pub limit : n.limit ≡ s.limit
  pub unit : is_some n.hart.unit ≡ s.float
  pub reservation : is_some n.hart.reservation ≡ s.atomic
  pub limits : HasLimits s.large n.hart.communication
  pub sound : IsSoundNode n

-- a node whose ticks were `started` when the superstep began, after so many exchanges: each cost it a tick, and to wait for the
-- next one costs it another
pub record IsUnderWay (exchanges : ℕ) (n : NodeState) (started : ℕ) : Type 0 where
  pub exchanged : exchanges ≤ started
  pub kept : started ≤ n.ticks
  pub waited : n.state ≡ Synced → started < n.ticks

-- the nodes have their ranks and equally many areas in effect, and their ticks fit the exchanges; before the outcome each
-- clock counts on from what the ledger's rows cost, and from its node's ticks when the superstep began; a machine with an outcome has no
-- node that runs; the ledger has a row for each exchange, and one for the outcome
pub record IsSoundMachine (m : MachineState) : Type 0 where
  pub settings : AreInRange m.settings
  pub ranks : map (λ n. n.hart.rank) m.nodes ≡ range_with_len 0 m.settings.nodes
  pub nodes : All (IsNodeOf m.settings) m.nodes
  pub ticks : AllZip (IsUnderWay m.exchanges) m.nodes m.started
  pub clocks : m.outcome ≡ None → AllZip (HasClock m.settings.clock m.ledger) m.nodes m.started
  pub areas : (count : ℕ) × All (λ n. length n.hart.communication.registrations.in_effect ≡ count) m.nodes
  pub outcome : IsSome m.outcome → some_runs m.nodes ≡ false
  pub ledger : length m.ledger ≡ m.exchanges + (if is_some m.outcome then 1 else 0)
