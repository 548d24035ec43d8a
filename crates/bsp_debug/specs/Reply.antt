-- A debugger's answer, without its allocator.
use Rattle.std.specs.Prelude.{ℕ, List, Bool}
use Rattle.bsp_requests.specs.Message.{Message}
use Rattle.cost_ledger.specs.declared.CostRow.{CostRow}
use Rattle.node_core.specs.declared.state.State.{State}
use Rattle.machine_core.specs.declared.outcome.Outcome.{Outcome}
use Rattle.bsp_debug.specs.declared.point.Point.{Point}
use Rattle.bsp_debug.specs.declared.reply.Reply.{Reply}
use Rattle.bsp_debug.specs.declared.reply.Reply.TheVariants.{Moved, Turned, Stopped, Finished, Regs, Fregs, Bytes, Queue, Costs}

pub data Answer : Type 0 where
  moved : ℕ → Answer
  turned : Bool → Answer
  stopped : Point → Answer
  finished : Outcome → Answer
  registers : (rank pc ticks : ℕ) → State → (x : List ℕ) → Answer
  floats : (rank fcsr : ℕ) → (f : List ℕ) → Answer
  bytes : List ℕ → Answer
  queue : List Message → Answer
  costs : List CostRow → Answer

-- what a reply answers, whatever memory holds it
abbrev pub answer : {A : Type 0} → Reply A → Answer
answer (Moved steps) = moved steps
answer (Turned made) = turned made
answer (Stopped point) = stopped point
answer (Finished outcome) = finished outcome
answer (Regs rank pc ticks state x) = registers rank pc ticks state x
answer (Fregs rank fcsr f) = floats rank fcsr f
answer (Bytes b) = bytes b
answer (Queue q) = queue q
answer (Costs c) = costs c
