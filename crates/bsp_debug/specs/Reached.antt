-- Where a debugger can be (own rule): at what events lead to, whatever was done and however often it went back.
use Rattle.std.specs.Prelude.{◌≡◌, List, All, IfSome, IsSome}
use Rattle.machine_core.specs.declared.event.Event.{Event}
use Rattle.machine_core.specs.Events.{after}
use Rattle.machine_core.specs.Machine.{MachineState}
use Rattle.machine_core.specs.Sound.{IsSoundMachine}
use Rattle.machine_core.specs.Turn.{end_of}
use Rattle.bsp_debug.specs.Debugger.{DebuggerState}

-- a schedule leads from a machine to another: steps of single nodes and turns, one after another
pub record IsReached (first m : MachineState) : Type 0 where
  pub schedule : List Event
  pub led : m ≡ after first schedule

-- the machine of which a debugger was made is sound, and the debugger's machine and each state that it keeps are reached from it
pub record HasReachedStates (d : DebuggerState) : Type 0 where
  pub first : IsSoundMachine d.first
  pub machine : IsReached d.first d.machine
  pub kept : All (λ state. IfSome state (λ m. IsReached d.first m)) d.kept

-- a machine is sound and has the end of another, and every schedule that finishes from it leaves that end
pub record EndsAs (first m : MachineState) : Type 0 where
  pub sound : IsSoundMachine m
  pub same : end_of m ≡ end_of first
  pub every_schedule : (schedule : List Event) → IsSome (after m schedule).outcome → after m schedule ≡ end_of first
