-- What the fields of a `Machine` show: whether room is made for a turn or a row of costs is no part of it. And what those of a
-- `ComputingMachine` show: the machine that was lent. And what is asked of the row of its nodes.
use Rattle.std.specs.Prelude.{◌≡◌, ℕ, ◌<◌, List, Result, OnOk, OnErr, IsSomeAnd, slice_get}
use Rattle.std.specs.declared.alloc.AllocError.{AllocError}
use Rattle.node_core.specs.Node.{PreparedNode, MayRefuseStep}
use Rattle.bsp_exchange.specs.Exchange.{states}
use Rattle.bsp_exchange.specs.Parts.{EachKeepsPrivate}
use Rattle.machine_core.specs.declared.machine.Machine.TheInside.{Inside}
use Rattle.machine_core.specs.declared.machine.computing.ComputingMachine.TheInside.{Inside as ComputingInside}
use Rattle.machine_core.specs.Events.{stepped_often}
use Rattle.machine_core.specs.Machine.{MachineState}

abbrev pub machine_view : {A : Type 0} → Inside A → MachineState
machine_view m = record {
  settings = m.settings;
  input = m.input;
  nodes = states m.nodes.items;
  started = m.started.items;
  output = m.output.items;
  ledger = m.ledger.rows;
  exchanges = m.exchanges;
  outcome = m.outcome;
}

abbrev pub computing_view : {A : Type 0} → ComputingInside A → MachineState
computing_view m = record {
  settings = m.settings;
  input = m.input;
  nodes = states m.lent.value.items;
  started = m.started.items;
  output = m.output.items;
  ledger = m.ledger.rows;
  exchanges = m.exchanges;
  outcome = m.outcome;
}

-- so many steps of the node at a place of a row were to be made at most, as long as it runs: they are; or memory is refused in one of
-- them, which could be made next, and those before it are made. Each node keeps its private pages
pub record AreRowSteps {T : Type 0} (input : List ℕ) (place most : ℕ) (old new : List PreparedNode)
    (answer : Result T AllocError) : Type 0 where
  pub ok : OnOk answer (states new ≡ stepped_often input place most (states old))
  pub err : OnErr answer ((k : ℕ) × (k < most) × (states new ≡ stepped_often input place k (states old)))
  pub refuses : OnErr answer (IsSomeAnd (slice_get (states new) place) (λ n. MayRefuseStep input n))
  pub private : EachKeepsPrivate old new
