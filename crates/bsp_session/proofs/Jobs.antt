-- What a job without a fault is, and the nodes that it asks for.
use Rattle.std.proofs.Common.{◌≡◌, ℕ, List, length, Bool, true, false, Option, Some, None, Result, Err, option_map, if◌then◌else◌, refl}
use Rattle.std.specs.Option.{option_or}
use Rattle.std.proofs.lemmas.List.FromFn.{length-map-range_with_len}
use Rattle.node_memory.specs.Image.{Image, is_segment_outside}
use Rattle.machine_core.specs.declared.error.MachineError.{MachineError}
use Rattle.machine_core.specs.declared.error.MachineError.TheVariants.{SegmentOutside}
use Rattle.machine_core.specs.declared.settings.Settings.{Settings}
use Rattle.machine_core.specs.Machine.{MachineState, fresh, node_at_start, machine_fault, settings_fault}
use Rattle.worker_pool.specs.declared.error.PoolError.{PoolError}
use Rattle.worker_pool.specs.declared.error.PoolError.TheVariants.{BadWorkers, BadSlice, NoWorker, NoMemory}
use Rattle.worker_pool.specs.Answers.{RefusesInOrder}
use Rattle.worker_pool.specs.Numbers.{numbers_fault}
use Rattle.bsp_session.specs.declared.job.Job.{Job}
use Rattle.bsp_session.specs.Outcome.{error_of_machine, error_of_pool}
use Rattle.bsp_session.specs.Session.{IsErrorOfThreads, job_fault}

neither : {X Y E : Type 0} (f : X → E) (h : Y → E) (x : Option X) (y : Option Y)
    → option_or (option_map f x) (option_map h y) ≡ None → y ≡ None
neither f h None None none = refl
neither f h None (Some y) none = cc
neither f h (Some x) y none = cc

first : {X E : Type 0} (f : X → E) (x : Option X) (y : Option E) → option_or (option_map f x) y ≡ None → x ≡ None
first f None y none = refl
first f (Some x) y none = cc

-- where only a part past the memory is left to refuse, and is not what is refused, there is none
none_outside : (fault : Option MachineError) (outside : Bool) → fault ≡ None
    → (option_or fault (if outside then Some SegmentOutside else None) ≡ Some SegmentOutside → ⊥) → outside ≡ false
none_outside None true none made = absurd (made refl)
none_outside None false none made = refl
none_outside (Some fault) outside none made = cc

-- its settings are within their ranges
pub settings_are_in_range : (job : Job) → job_fault job ≡ None → settings_fault job.settings ≡ None
settings_are_in_range job none =
    first error_of_machine (settings_fault job.settings) (option_map error_of_pool (numbers_fault job.workers job.slice)) none

-- an image that is not refused for it has no part past the memory
pub fits_memory : (image : Image) (job : Job) → job_fault job ≡ None
    → (machine_fault image job.settings ≡ Some SegmentOutside → ⊥) → is_segment_outside image job.settings.memory ≡ false
fits_memory image job none made =
    none_outside (settings_fault job.settings) (is_segment_outside image job.settings.memory) (settings_are_in_range job none) made

-- its numbers of workers and of steps in a slice are within their ranges
pub numbers_are_in_range : (job : Job) → job_fault job ≡ None → numbers_fault job.workers job.slice ≡ None
numbers_are_in_range job none =
    neither error_of_machine error_of_pool (settings_fault job.settings) (numbers_fault job.workers job.slice) none

-- a machine at its start has as many nodes as its settings say
pub length-fresh : (image : Image) (input : List ℕ) (s : Settings) → length (fresh image input s).nodes ≡ s.nodes
length-fresh image input s = length-map-range_with_len (node_at_start image s) 0 s.nodes

-- a run is refused for want of a thread or of memory alone
pub IsErrorOfThreads-of_pool : {X : Type 0} (job : Job) (start new : MachineState) (r : Result X PoolError) (cause : PoolError)
    → numbers_fault job.workers job.slice ≡ None → RefusesInOrder job.workers job.slice start new r → r ≡ Err cause
    → IsErrorOfThreads job start (error_of_pool cause)
IsErrorOfThreads-of_pool job start new r NoWorker none refusals is = refusals.no_worker is
IsErrorOfThreads-of_pool job start new r NoMemory none refusals is = tt
IsErrorOfThreads-of_pool job start new r BadWorkers none refusals is = let fault = refusals.bad_workers.0 is in cc
IsErrorOfThreads-of_pool job start new r BadSlice none refusals is = let fault = refusals.bad_slice.0 is in cc
