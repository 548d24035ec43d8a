-- What the calls of the pool answer, and what they leave of the machine.
use Rattle.std.specs.Prelude.{◌≡◌, ◌↔◌, ℕ, ◌<◌, length, None, Some, IsSome, Result, IsOk, OnOk, OnErr, IsErrOf}
use Rattle.machine_core.specs.Machine.{MachineState}
use Rattle.machine_core.specs.Turn.{with_phases, end_of}
use Rattle.worker_pool.specs.declared.error.PoolError.{PoolError}
use Rattle.worker_pool.specs.declared.error.PoolError.TheVariants.{BadWorkers, BadSlice, NoWorker}
use Rattle.worker_pool.specs.Numbers.{numbers_fault}
use Rattle.worker_pool.specs.Phases.{LeadsTo, LeadsWithoutTurn}
use Rattle.worker_pool.specs.Work.{HaveCome}

-- a number out of its range is refused just where it is, workers before the slice, and nothing has changed then; a thread is refused only
-- where several workers have several nodes
pub record RefusesInOrder {X : Type 0} (workers slice : ℕ) (old new : MachineState) (answer : Result X PoolError) : Type 0 where
  pub bad_workers : IsErrOf answer BadWorkers ↔ (numbers_fault workers slice ≡ Some BadWorkers)
  pub bad_slice : IsErrOf answer BadSlice ↔ (numbers_fault workers slice ≡ Some BadSlice)
  pub unchanged : IsSome (numbers_fault workers slice) → new ≡ old
  pub no_worker : IsErrOf answer NoWorker → (1 < workers) × (1 < length old.nodes)

-- the local parts of a superstep were to be made. An error leaves what some of their steps lead to, and after the outcome nothing is
-- left to do
pub record IsPhaseAnswer (workers slice : ℕ) (old new : MachineState) (answer : Result (Unit {0}) PoolError) : Type 0 where
  pub refusals : RefusesInOrder workers slice old new answer
  pub ok : OnOk answer (new ≡ with_phases old)
  pub err : OnErr answer (LeadsWithoutTurn old new)
  pub over : numbers_fault workers slice ≡ None → IsSome old.outcome → IsOk answer × (new ≡ old)
  pub stopped : numbers_fault workers slice ≡ None → HaveCome new.input new.nodes

-- a run was to be made to its outcome. An error leaves what some events lead to, without an outcome
pub record IsRunAnswer (workers slice : ℕ) (old new : MachineState) (answer : Result (Unit {0}) PoolError) : Type 0 where
  pub refusals : RefusesInOrder workers slice old new answer
  pub ok : OnOk answer (new ≡ end_of old)
  pub ended : OnOk answer (IsSome new.outcome)
  pub err : OnErr answer (LeadsTo old new)
  pub over : numbers_fault workers slice ≡ None → IsSome old.outcome → IsOk answer × (new ≡ old)
  pub stopped : numbers_fault workers slice ≡ None → HaveCome new.input new.nodes
  pub going : numbers_fault workers slice ≡ None → OnErr answer (new.outcome ≡ None)
