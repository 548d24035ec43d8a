-- Runs of a machine in which what puts and gets bring lands in any order that BSPlib allows (Hill and others 1998: `bsp_put`, `bsp_get`,
-- `bsp_sync`), in each superstep in another. All else is as in the machine's own runs, the queues too.
use Rattle.std.specs.Prelude.{◌≡◌, ℕ, zero, suc, ◌+◌, ◌<◌, true, false, List, map, if◌then◌else◌, Option, Some, None, is_some}
use Rattle.std.specs.Fn.{iterate}
use Rattle.node_memory.specs.Bytes.{byte_at}
use Rattle.node_core.specs.Node.{NodeState}
use Rattle.bsp_exchange.specs.Landings.{Landing, landings, memory_of}
use Rattle.contested_bytes.specs.Contested.{AreSettled, IsAllowedOrder, IsContested, exchanged_in}
use Rattle.machine_core.specs.declared.outcome.Outcome.{Outcome}
use Rattle.machine_core.specs.Clock.{with_clocks}
use Rattle.machine_core.specs.Machine.{MachineState}
use Rattle.machine_core.specs.Turn.{outcome_of, makes_exchange, recorded, with_phases, superstep}

-- a machine after the exchange in which landings come in this order
abbrev pub with_exchange_in : List Landing → MachineState → MachineState
with_exchange_in order m = record m {
  nodes = with_clocks m.settings.clock m.ledger (exchanged_in order m.nodes);
  started = map (λ (n : NodeState). n.ticks) m.nodes;
  exchanges = m.exchanges + 1;
}

abbrev pub decided_in : List Landing → Option Outcome → MachineState → MachineState
decided_in order (Some end) m = record m { outcome = Some end }
decided_in order None m = with_exchange_in order m

abbrev pub turned_in : List Landing → MachineState → MachineState
turned_in order m = decided_in order (outcome_of m.nodes) (recorded m)

-- a machine after a superstep at whose end landings come in this order
abbrev pub superstep_in : List Landing → MachineState → MachineState
superstep_in order m = if is_some m.outcome then m else turned_in order (with_phases m)

-- what lands where the exchange at the end of a machine's next superstep is made
abbrev pub next_landings : MachineState → List Landing
next_landings m = landings (with_phases m).nodes

-- a machine after so many supersteps, each in some order that BSPlib allows
abbrev pub RunsTo : ℕ → MachineState → MachineState → Type 0
RunsTo zero m n = n ≡ m
RunsTo (suc k) m n = (order : List Landing) × IsAllowedOrder (next_landings m) order × RunsTo k (superstep_in order m) n

-- the next superstep has no contested byte: no exchange is made, or what it lands is settled
abbrev pub IsSettledSuperstep : MachineState → Type 0
IsSettledSuperstep m = is_some m.outcome ≡ false → makes_exchange (with_phases m).nodes ≡ true → AreSettled (next_landings m)

-- none of the next k supersteps of a machine has a contested byte
abbrev pub IsSettledRun : ℕ → MachineState → Type 0
IsSettledRun k m = (j : ℕ) → j < k → IsSettledSuperstep (iterate superstep j m)

-- a byte of the next superstep is contested: its exchange is made, and two of what it lands bring different bytes there
pub record IsContestedNext (m : MachineState) (rank addr : ℕ) : Type 0 where
  pub going : is_some m.outcome ≡ false
  pub made : makes_exchange (with_phases m).nodes ≡ true
  pub bytes : IsContested (next_landings m) rank addr

-- a byte may lie at an address of a rank's memory after so many supersteps: it does so after these, each in some order that BSPlib allows
abbrev pub MayLieAfter : ℕ → MachineState → ℕ → ℕ → ℕ → Type 0
MayLieAfter k m rank addr byte = (n : MachineState) × RunsTo k m n × (byte_at (memory_of n.nodes rank) addr ≡ byte)
