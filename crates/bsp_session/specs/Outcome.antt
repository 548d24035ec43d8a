-- Exit statuses, and what a session answers where one of its parts was refused (own rules).
use Rattle.std.specs.Prelude.{ℕ, List, codes, Result, Ok, Err}
use Rattle.counted_io.specs.declared.ReadError.{ReadError}
use Rattle.counted_io.specs.declared.ReadError.TheVariants as read
use Rattle.elf_image.specs.declared.error.ElfError.{ElfError}
use Rattle.elf_image.specs.declared.error.ElfError.TheVariants as file
use Rattle.node_core.specs.declared.state.State.{State}
use Rattle.node_core.specs.declared.state.State.TheVariants.{Running, Synced, Ended, Aborted, Exhausted, Faulted}
use Rattle.rv_asm.specs.declared.errors.AsmError.{AsmError}
use Rattle.rv_asm.specs.declared.errors.AsmKind.{AsmKind}
use Rattle.rv_asm.specs.declared.errors.AsmKind.TheVariants as kind
use Rattle.machine_core.specs.declared.error.MachineError.{MachineError}
use Rattle.machine_core.specs.declared.error.MachineError.TheVariants as machine
use Rattle.machine_core.specs.declared.outcome.Outcome.{Outcome}
use Rattle.machine_core.specs.declared.outcome.Outcome.TheVariants as outcome
use Rattle.worker_pool.specs.declared.error.PoolError.{PoolError}
use Rattle.worker_pool.specs.declared.error.PoolError.TheVariants as pool
use Rattle.bsp_session.specs.declared.errors.BadSetting.{BadSetting}
use Rattle.bsp_session.specs.declared.errors.BadSetting.TheVariants.{BadNodes, BadMemory, BadLimit, BadWorkers, BadSlice}
use Rattle.bsp_session.specs.declared.errors.SessionError.{SessionError}
use Rattle.bsp_session.specs.declared.errors.SessionError.TheVariants.{BadSettings, TooLong, Text, BadImage, SegmentOutside, ReadFault}
use Rattle.bsp_session.specs.declared.errors.SessionError.TheVariants.{TooManyNodes, WriteFault, NoWorker, NoMemory}

-- what a bad setting is called in a line to the user
abbrev pub name_of : BadSetting → List ℕ
name_of BadNodes = codes "BadNodes"
name_of BadMemory = codes "BadMemory"
name_of BadLimit = codes "BadLimit"
name_of BadWorkers = codes "BadWorkers"
name_of BadSlice = codes "BadSlice"

-- 2 for a fault or an abort, 3 for the limit. No node is stopped in any other state, which counts as the machine's refusal to go on
abbrev pub status_of_stop : State → ℕ
status_of_stop Running = 4
status_of_stop Synced = 4
status_of_stop Ended = 4
status_of_stop Aborted = 2
status_of_stop Exhausted = 3
status_of_stop (Faulted _) = 2

-- 0 where all ended, and else that of the lowest rank that was stopped; 4 where none was and the nodes could not go on together
abbrev pub status_of_outcome : Outcome → ℕ
status_of_outcome outcome.Ended = 0
status_of_outcome (outcome.NodeStopped rank state) = status_of_stop state
status_of_outcome (outcome.Desync ended synced) = 4
status_of_outcome (outcome.Refused fault) = 4

-- 1 for what was handed in, 6 for readers and writers, 5 for memory and threads
abbrev pub status_of_error : SessionError → ℕ
status_of_error (BadSettings _) = 1
status_of_error TooLong = 1
status_of_error (Text _) = 1
status_of_error (BadImage _) = 1
status_of_error SegmentOutside = 1
status_of_error TooManyNodes = 1
status_of_error ReadFault = 6
status_of_error WriteFault = 6
status_of_error NoWorker = 5
status_of_error NoMemory = 5

-- the exit status of a session's answer
abbrev pub status_of : Result Outcome SessionError → ℕ
status_of (Ok o) = status_of_outcome o
status_of (Err e) = status_of_error e

-- what a session answers where a reader gave no bytes
abbrev pub error_of_read : ReadError → SessionError
error_of_read read.TooLong = TooLong
error_of_read read.ReadFault = ReadFault
error_of_read read.NoMemory = NoMemory

-- what a session answers where a text has no image
abbrev pub error_of_text : AsmError → SessionError
error_of_text cause = for_kind cause.kind
  where
    for_kind : AsmKind → SessionError
    for_kind kind.NoMemory = NoMemory
    for_kind _ = Text cause

-- what a session answers where an ELF file has no image
abbrev pub error_of_file : ElfError → SessionError
error_of_file file.NoMemory = NoMemory
error_of_file cause = BadImage cause

-- what a session answers where there is no machine
abbrev pub error_of_machine : MachineError → SessionError
error_of_machine machine.BadNodes = BadSettings BadNodes
error_of_machine machine.BadMemory = BadSettings BadMemory
error_of_machine machine.BadLimit = BadSettings BadLimit
error_of_machine machine.SegmentOutside = SegmentOutside
error_of_machine machine.NoMemory = NoMemory

-- what a session answers where the workers did not come to their end
abbrev pub error_of_pool : PoolError → SessionError
error_of_pool pool.BadWorkers = BadSettings BadWorkers
error_of_pool pool.BadSlice = BadSettings BadSlice
error_of_pool pool.NoWorker = NoWorker
error_of_pool pool.NoMemory = NoMemory
