-- A session over the bytes of its readers and its writer, where they are known. The order of the stages is an own rule:
-- settings, image read, input read, image understood, machine made, run, report written.
use Rattle.std.specs.Prelude.{◌≡◌, ℕ, ◌^◌, ◌<◌, ◌⊎◌, Bool, false, true, if◌then◌else◌, List, length, Option, None, Some, option_map, Result, IfErr, OnOk, IsSome}
use Rattle.std.specs.Option.{option_or}
use Rattle.std.specs.Io.KnownBytes.{Appends}
use Rattle.counted_io.specs.Transfers.{AppendsPrefix}
use Rattle.counted_io.specs.declared.ReadError.{ReadError}
use Rattle.counted_io.specs.declared.ReadError.TheVariants as read
use Rattle.node_memory.specs.Image.{Image, is_segment_outside}
use Rattle.machine_core.specs.declared.outcome.Outcome.{Outcome}
use Rattle.machine_core.specs.Machine.{MachineState, fresh, settings_fault}
use Rattle.machine_core.specs.Turn.{end_of}
use Rattle.worker_pool.specs.Numbers.{numbers_fault}
use Rattle.bsp_session.specs.declared.errors.SessionError.{SessionError}
use Rattle.bsp_session.specs.declared.errors.SessionError.TheVariants.{BadSettings, TooLong, Text, BadImage, SegmentOutside, ReadFault}
use Rattle.bsp_session.specs.declared.errors.SessionError.TheVariants.{TooManyNodes, WriteFault, NoWorker, NoMemory}
use Rattle.bsp_session.specs.declared.job.Job.{Job}
use Rattle.bsp_session.specs.Images.{most_bytes, Gives, image_fault}
use Rattle.bsp_session.specs.Outcome.{error_of_machine, error_of_pool}
use Rattle.bsp_session.specs.Streams.{Stream, IsUntouched, ReadsWhole, HasFailed, IsReadErrorOf}
use Rattle.bsp_session.specs.Report.{report_of}

-- what a session reads, what it writes to, and what it is asked. The bytes of the writer are those that it holds
pub record Session : Type 0 where
  pub image : Stream
  pub input : Stream
  pub out : Stream
  pub job : Job

abbrev pub session_of : (image input out : Stream) → Job → Session
session_of image input out job = record { image = image; input = input; out = out; job = job }

-- the most bytes of an input, of a large machine and of any other (own limits)
abbrev pub most_input : Bool → ℕ
most_input large = if large then 2 ^ 30 else 2 ^ 24

-- ---- what the sessions that make a machine share; `fault` is their test of a job's settings

-- the settings are good, and an image's file and an input were read
pub record ReadsFiles (fault : Job → Option SessionError) (job : Job) (image input : Stream) (i n : List ℕ) : Type 0 where
  pub settings : fault job ≡ None
  pub image_read : ReadsWhole image i (most_bytes job.format)
  pub input_read : ReadsWhole input n (most_input job.settings.large)

-- the settings are good; the image was not read whole, for this, and the input was not touched, or the image was read, and the input was
-- not read whole
pub record EndsAtFile (fault : Job → Option SessionError) (job : Job) (image input : Stream) (why : ReadError) : Type 0 where
  pub settings : fault job ≡ None
  pub ended : (IsReadErrorOf (most_bytes job.format) image why × IsUntouched input)
      ⊎ ((i : List ℕ) × ReadsWhole image i (most_bytes job.format) × IsReadErrorOf (most_input job.settings.large) input why)

-- why they were not both read
abbrev pub IsErrorOfFiles : (fault : Job → Option SessionError) → Job → (image input : Stream) → SessionError → Type 0
IsErrorOfFiles fault job image input (BadSettings cause) = (fault job ≡ Some (BadSettings cause)) × IsUntouched image × IsUntouched input
IsErrorOfFiles fault job image input TooLong = EndsAtFile fault job image input read.TooLong
IsErrorOfFiles fault job image input ReadFault = EndsAtFile fault job image input read.ReadFault
IsErrorOfFiles fault job image input NoMemory = EndsAtFile fault job image input read.NoMemory
IsErrorOfFiles fault job image input _ = ⊥

-- a file's image, which fits the memory
pub record HasImage (job : Job) (file : List ℕ) (m : Image) : Type 0 where
  pub gives : Gives job.format file m
  pub fits : is_segment_outside m job.settings.memory ≡ false

-- a file's image, a part of which lies past the memory
pub record PassesMemory (job : Job) (file : List ℕ) : Type 0 where
  pub m : Image
  pub gives : Gives job.format file m
  pub outside : is_segment_outside m job.settings.memory ≡ true

-- why a file gives no machine: it gives no image, or none that fits, or memory was refused
abbrev pub IsErrorOfImage : Job → List ℕ → SessionError → Type 0
IsErrorOfImage job file (Text cause) = image_fault job.format file ≡ Some (Text cause)
IsErrorOfImage job file (BadImage cause) = image_fault job.format file ≡ Some (BadImage cause)
IsErrorOfImage job file SegmentOutside = PassesMemory job file
IsErrorOfImage job file NoMemory = Unit {0}
IsErrorOfImage job file _ = ⊥

-- ---- the session of a run

-- the first setting that is out of its range: of the machine, and then of the workers and the slice
abbrev pub job_fault : Job → Option SessionError
job_fault job =
    option_or (option_map error_of_machine (settings_fault job.settings))
    (option_map error_of_pool (numbers_fault job.workers job.slice))

-- both were read
abbrev pub ReadsBoth : Session → (i n : List ℕ) → Type 0
ReadsBoth s i n = ReadsFiles job_fault s.job s.image s.input i n

-- there are an image that fits, several workers and several nodes
pub record NeedsWorkers (job : Job) (file : List ℕ) : Type 0 where
  pub m : Image
  pub image : HasImage job file m
  pub workers : 1 < job.workers
  pub nodes : 1 < job.settings.nodes

-- both were read, the file gives an image that fits, and this is the machine at the start of its run
pub record StartsAt (s : Session) (start : MachineState) : Type 0 where
  pub i : List ℕ
  pub n : List ℕ
  pub m : Image
  pub read : ReadsBoth s i n
  pub image : HasImage s.job i m
  pub is : start ≡ fresh m n s.job.settings

-- the whole of the report was written
pub record ReportsFrom (s : Session) (start : MachineState) : Type 0 where
  pub starts : StartsAt s start
  pub written : Appends s.out.before s.out.after (report_of s.job (end_of start))

-- an answer: how the run ended, after the whole of its report was written
pub record Reports (s : Session) (o : Outcome) : Type 0 where
  pub start : MachineState
  pub reports : ReportsFrom s start
  pub outcome : (end_of start).outcome ≡ Some o

-- some first bytes of a report were written, and not all, and then the writer failed
pub record IsReportPart (job : Job) (end : MachineState) (out : Stream) : Type 0 where
  pub written : AppendsPrefix out.before out.after (report_of job end)
  pub failed : HasFailed out

-- so it was in a session
pub record ReportsPart (s : Session) : Type 0 where
  pub start : MachineState
  pub starts : StartsAt s start
  pub part : IsReportPart s.job (end_of start) s.out

-- a setting was bad, or the two were not both read, for this; nothing was written
pub record EndsReading (s : Session) (e : SessionError) : Type 0 where
  pub cause : IsErrorOfFiles job_fault s.job s.image s.input e
  pub unwritten : IsUntouched s.out

-- why a file does not run to an outcome: it gives no machine, or a thread was refused
abbrev pub IsErrorOfRun : Job → List ℕ → SessionError → Type 0
IsErrorOfRun job file NoWorker = NeedsWorkers job file
IsErrorOfRun job file e = IsErrorOfImage job file e

-- both were read, and there is no outcome, for this
pub record EndsUnrun (s : Session) (e : SessionError) : Type 0 where
  pub i : List ℕ
  pub n : List ℕ
  pub read : ReadsBoth s i n
  pub cause : IsErrorOfRun s.job i e
  pub unwritten : IsUntouched s.out

-- what is known where a session ended by an error
abbrev pub IsErrorOf : Session → SessionError → Type 0
IsErrorOf s (BadSettings cause) = EndsReading s (BadSettings cause)
IsErrorOf s TooLong = EndsReading s TooLong
IsErrorOf s (Text cause) = EndsUnrun s (Text cause)
IsErrorOf s (BadImage cause) = EndsUnrun s (BadImage cause)
IsErrorOf s SegmentOutside = EndsUnrun s SegmentOutside
IsErrorOf s TooManyNodes = ⊥
IsErrorOf s ReadFault = EndsReading s ReadFault
IsErrorOf s WriteFault = ReportsPart s
IsErrorOf s NoWorker = EndsUnrun s NoWorker
IsErrorOf s NoMemory = EndsReading s NoMemory ⊎ EndsUnrun s NoMemory

-- ---- for private contracts, which speak of one stage

-- why a machine did not come to its outcome: a thread was refused, which only several workers and several nodes want, or memory
abbrev pub IsErrorOfThreads : Job → MachineState → SessionError → Type 0
IsErrorOfThreads job start NoWorker = (1 < job.workers) × (1 < length start.nodes)
IsErrorOfThreads job start NoMemory = Unit {0}
IsErrorOfThreads job start _ = ⊥

-- a machine was to be run to its outcome
pub record ComesToEnd {X : Type 0} (job : Job) (start end : MachineState) (answer : Result X SessionError) : Type 0 where
  pub is : OnOk answer (end ≡ end_of start)
  pub over : OnOk answer (IsSome end.outcome)
  pub err : IfErr answer (IsErrorOfThreads job start)

-- why its report was not all written
abbrev pub IsErrorOfReport : Job → MachineState → Stream → SessionError → Type 0
IsErrorOfReport job end out WriteFault = IsReportPart job end out
IsErrorOfReport job end out NoMemory = IsUntouched out
IsErrorOfReport job end out _ = ⊥
