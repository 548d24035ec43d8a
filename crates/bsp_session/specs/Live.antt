-- A session that writes while the run goes on: after each superstep what the nodes wrote in it, and after the last one the lines that a job
-- asks for (own rule). The output of a machine is what its nodes wrote in the supersteps that are over, so that what stands written at any
-- time is the output of the machine after some first supersteps of its run.
use Rattle.std.specs.Prelude.{◌≡◌, ◌⊎◌, ℕ, ◌<◌, ◌≤◌, true, List, [], length, take, Option, None, is_some, if◌then◌else◌}
use Rattle.std.specs.Fn.{iterate}
use Rattle.std.specs.Io.KnownBytes.{Appends}
use Rattle.machine_core.specs.Machine.{MachineState}
use Rattle.machine_core.specs.Turn.{end_of, superstep, with_phases, written}
use Rattle.bsp_session.specs.declared.errors.SessionError.{SessionError}
use Rattle.bsp_session.specs.declared.errors.SessionError.TheVariants.{WriteFault, NoWorker, NoMemory}
use Rattle.bsp_session.specs.declared.job.Job.{Job}
use Rattle.bsp_session.specs.Report.{report_of}
use Rattle.bsp_session.specs.Session.{IsErrorOf, Session, StartsAt}
use Rattle.bsp_session.specs.Streams.{Stream, IsUntouched, HasFailed}

-- ---- what stands written

-- some first supersteps of a run were made, this is the machine after them, and the whole of its output was written, and nothing else.
-- After the outcome there are no supersteps
pub record WritesUpTo (start : MachineState) (out : Stream) (m : MachineState) : Type 0 where
  pub count : ℕ
  pub is : m ≡ iterate superstep count start
  pub written : Appends out.before out.after m.output

-- known bytes grow by the first k of some bytes, of which there is one at least, or by all: a writer that takes all of them may still
-- fail when it is flushed
abbrev pub AppendsSome : Option (List ℕ) → Option (List ℕ) → List ℕ → Type 0
AppendsSome old new bytes = (k : ℕ) × (k ≤ length bytes) × (0 < length bytes) × Appends old new (take k bytes)

-- ---- a run from its start

-- it was stopped after some first supersteps, before its outcome
abbrev pub StopsShort : MachineState → Stream → Type 0
StopsShort start out = (m : MachineState) × WritesUpTo start out m × (m.outcome ≡ None)

-- a thread is wanted only where there are several workers and several nodes
abbrev pub WantsThreads : Job → MachineState → Type 0
WantsThreads job start = (1 < job.workers) × (1 < start.settings.nodes)

-- the writer failed at some of these bytes, or behind them
abbrev pub FailsAt : Stream → List ℕ → Type 0
FailsAt out bytes = AppendsSome out.before out.after bytes × HasFailed out

-- why it came to no outcome, or its output was not all written
abbrev pub IsErrorOfLiveRun : Job → MachineState → Stream → SessionError → Type 0
IsErrorOfLiveRun job start out WriteFault = FailsAt out (end_of start).output
IsErrorOfLiveRun job start out NoWorker = StopsShort start out × WantsThreads job start
IsErrorOfLiveRun job start out NoMemory = StopsShort start out
IsErrorOfLiveRun job start out _ = ⊥

-- the same of a run in one thread
abbrev pub IsErrorOfPlainRun : MachineState → Stream → SessionError → Type 0
IsErrorOfPlainRun start out WriteFault = FailsAt out (end_of start).output
IsErrorOfPlainRun start out NoMemory = StopsShort start out
IsErrorOfPlainRun start out _ = ⊥

-- the whole of its output was written, and memory was refused for the lines that a job asks for
abbrev pub LacksLines : Job → MachineState → Stream → Type 0
LacksLines job start out = (job.report ≡ true) × Appends out.before out.after (end_of start).output

-- ---- one superstep

-- why a superstep was not made, or what the nodes wrote in it not all written. Nothing of it is written before its turn is made
abbrev pub IsErrorOfSuperstep : Job → MachineState → Stream → SessionError → Type 0
IsErrorOfSuperstep job m out WriteFault = FailsAt out (written (with_phases m).nodes)
IsErrorOfSuperstep job m out NoWorker = IsUntouched out × WantsThreads job m
IsErrorOfSuperstep job m out NoMemory = IsUntouched out
IsErrorOfSuperstep job m out _ = ⊥

-- the same in one thread
abbrev pub IsErrorOfPlainSuperstep : MachineState → Stream → SessionError → Type 0
IsErrorOfPlainSuperstep m out WriteFault = FailsAt out (written (with_phases m).nodes)
IsErrorOfPlainSuperstep m out NoMemory = IsUntouched out
IsErrorOfPlainSuperstep m out _ = ⊥

-- ---- the whole session

-- both were read, the file gives an image that fits, and this is so of the machine at the start of its run
abbrev pub RunsFrom : (MachineState → Type 0) → Session → Type 0
RunsFrom what s = (start : MachineState) × StartsAt s start × what start

-- what is known where such a session ended by an error: up to the start of the run that it is one of the session that writes at the end,
-- whose answer it has too. Memory may be refused before the run, in it, or for the lines after it: the error does not tell which, but what
-- stands written does
abbrev pub IsErrorOfLive : Session → SessionError → Type 0
IsErrorOfLive s WriteFault = RunsFrom (λ start. FailsAt s.out (report_of s.job (end_of start))) s
IsErrorOfLive s NoWorker = RunsFrom (λ start. StopsShort start s.out × WantsThreads s.job start) s
IsErrorOfLive s NoMemory = IsErrorOf s NoMemory ⊎ RunsFrom (λ start. StopsShort start s.out ⊎ LacksLines s.job start s.out) s
IsErrorOfLive s e = IsErrorOf s e

-- errors that may come once the run has begun, after something was written. At every other nothing was
abbrev pub MayComeLate : SessionError → Type 0
MayComeLate WriteFault = Unit {0}
MayComeLate NoWorker = Unit {0}
MayComeLate NoMemory = Unit {0}
MayComeLate _ = ⊥

-- ---- superstep by superstep

-- what the nodes of a machine write in its next superstep: nothing after the outcome
abbrev pub written_next : MachineState → List ℕ
written_next m = if is_some m.outcome then [] else written (with_phases m).nodes

-- what they write in superstep k of a run
abbrev pub written_in : MachineState → ℕ → List ℕ
written_in start k = written_next (iterate superstep k start)
