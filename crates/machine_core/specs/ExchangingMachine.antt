-- What the fields of an `ExchangingMachine` show: the machine whose turn has begun. And what it keeps of that machine meanwhile.
use Rattle.std.specs.Prelude.{◌≡◌, ◌++◌, None, IsTrue, length, true}
use Rattle.cost_ledger.specs.declared.CostRow.{CostRow}
use Rattle.bsp_exchange.specs.Parts.{CanExchange}
use Rattle.machine_core.specs.declared.event.Event.TheVariants.{Turn}
use Rattle.machine_core.specs.declared.machine.exchanging.ExchangingMachine.TheInside.{Inside}
use Rattle.machine_core.specs.Events.{is_enabled}
use Rattle.machine_core.specs.Machine.{MachineState}
use Rattle.machine_core.specs.Sound.{IsSoundMachine}
use Rattle.machine_core.specs.Turn.{outcome_of, written, cost_row}

abbrev pub exchanging_view : {A : Type 0} → Inside A → MachineState
exchanging_view m = m.before.value

abbrev pub kept : {A : Type 0} → Inside A → MachineState
kept m = record {
  settings = m.settings;
  input = m.input;
  nodes = m.before.value.nodes;
  started = m.started.items;
  output = m.output.items;
  ledger = m.ledger.rows;
  exchanges = m.exchanges;
  outcome = None;
}

-- a machine whose turn has begun and makes the exchange, what is kept of it, with the output of the superstep, and the superstep's cost
pub record AwaitsRow (m rest : MachineState) (cost : CostRow) : Type 0 where
  pub sound : IsSoundMachine m
  pub enabled : is_enabled m Turn ≡ true
  pub none : outcome_of m.nodes ≡ None
  pub exchanges : CanExchange m.nodes
  pub recorded : rest ≡ record m { output = m.output ++ written m.nodes }
  pub costs : cost ≡ cost_row m

-- and how long the machine's output was, so that the superstep's can be cut off again
abbrev pub IsExchanging : {A : Type 0} → Inside A → Type 0
IsExchanging m = AwaitsRow (exchanging_view m) (kept m) m.cost × IsTrue m.ledger.ready × (m.output_before ≡ length m.before.value.output)
