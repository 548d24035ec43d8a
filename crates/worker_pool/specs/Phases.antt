-- How far a call takes a machine.
use Rattle.std.specs.Prelude.{◌≡◌, ℕ, ◌<◌, List, length, IsTrue, IsFalse}
use Rattle.machine_core.specs.declared.event.Event.{Event}
use Rattle.machine_core.specs.Events.{after, MakeNoTurn}
use Rattle.machine_core.specs.Machine.{MachineState}
use Rattle.machine_core.specs.Turn.{with_phases}
use Rattle.worker_pool.specs.declared.error.Refused.{Refused}
use Rattle.worker_pool.specs.Work.{HaveCome}

-- some events lead from one machine to another
abbrev pub LeadsTo : MachineState → MachineState → Type 0
LeadsTo old new = (events : List Event) × (new ≡ after old events)

-- some events without a turn do
abbrev pub LeadsWithoutTurn : MachineState → MachineState → Type 0
LeadsWithoutTurn old new = (events : List Event) × MakeNoTurn old events × (new ≡ after old events)

-- a machine after so many workers were to make its nodes' local parts of the superstep: all of them are made where no memory was
-- refused, and otherwise each as far as memory allowed. A thread is wanted only where there are several workers and several
-- nodes
pub record IsPhaseMade (workers : ℕ) (old new : MachineState) (refused : Refused) : Type 0 where
  pub ok : IsFalse refused.memory → new ≡ with_phases old
  pub stepped : LeadsWithoutTurn old new
  pub come : HaveCome new.input new.nodes
  pub no_worker : IsTrue refused.thread → (1 < workers) × (1 < length old.nodes)
