-- What an answer says of the fault for which there is no machine.
use Rattle.std.specs.Prelude.{◌≡◌, ◌≢◌, ◌↔◌, Option, Some, Result, IsErrOf}
use Rattle.machine_core.specs.declared.error.MachineError.{MachineError}
use Rattle.machine_core.specs.declared.error.MachineError.TheVariants.{NoMemory}

-- an answer names the fault that there is, and none where there is none: it may be then that memory is refused
abbrev pub NamesFault : {T : Type 0} → Result T MachineError → Option MachineError → Type 0
NamesFault answer fault = (e : MachineError) → e ≢ NoMemory → IsErrOf answer e ↔ (fault ≡ Some e)
