-- Runs of one node up to where a function returns, and what steps over a call of one (own rules). A call is a jump that leaves its return
-- address in ra, which is x1 (RISC-V Unprivileged ISA 20191213, section 2.5 "Control Transfer Instructions", and chapter 25 "RISC-V
-- Assembly Programmer's Handbook", as is sp, which is x2, for the stack that grows downwards).
use Rattle.std.specs.Prelude.{◌≡◌, ℕ, ◌<◌, ◌==◌, ◌&&◌, ◌||◌, nat_le, Bool, true, false, List, slice_get, if◌then◌else◌, Option, Some, None}
use Rattle.std.specs.Option.{option_and_then, option_map_or}
use Rattle.rv_tables.specs.declared.code.Code.{Code}
use Rattle.rv_tables.specs.declared.instr.Instr.{Instr}
use Rattle.rv_tables.specs.declared.instr.Instr.TheVariants.{R, I, Shift, Load, Store, Branch, Upper, Jal, Jalr, Plain}
use Rattle.rv_tables.specs.Codes.{decoded, length_of}
use Rattle.node_core.specs.Hart.{Hart, next_pc, reg}
use Rattle.node_core.specs.Executed.{fetched}
use Rattle.node_core.specs.Node.{NodeState, is_running}
use Rattle.machine_core.specs.declared.event.Event.TheVariants as event
use Rattle.machine_core.specs.Machine.{MachineState}
use Rattle.machine_core.specs.Turn.{lowest}
use Rattle.machine_core.specs.Events.{is_enabled}
use Rattle.bsp_debug.specs.declared.command.Command.{Command}
use Rattle.bsp_debug.specs.declared.command.Command.TheVariants.{Step, Return}
use Rattle.bsp_debug.specs.declared.point.Point.{Point}
use Rattle.bsp_debug.specs.declared.point.Point.TheVariants.{Address}
use Rattle.bsp_debug.specs.Points.{is_set}
use Rattle.bsp_debug.specs.Trace.{after_steps}

-- ---- where a run ends

-- a node stands behind a call: at its return address, and its stack has no more on it than at the call. Where the function is called once
-- more before it returns, the return from there finds more on the stack, and is not this one
abbrev pub stands_behind : (addr sp : ℕ) → NodeState → Bool
stands_behind addr sp n = n.hart.pc == addr && nat_le sp (reg n.hart 2)

-- the node of a rank does, or stands at a point
abbrev pub has_arrived : List Point → (rank addr sp : ℕ) → MachineState → Bool
has_arrived points rank addr sp m =
    option_map_or (λ (n : NodeState). stands_behind addr sp n || is_set points (Address rank n.hart.pc)) (slice_get m.nodes rank) false

-- it runs before each of so many steps, and has not arrived on the way, but perhaps where it began
pub record GoesOn (points : List Point) (m : MachineState) (rank addr sp count : ℕ) : Type 0 where
  pub runs : (j : ℕ) → j < count → is_enabled (after_steps m rank j) (event.Step rank) ≡ true
  pub passes : (j : ℕ) → 0 < j → j < count → has_arrived points rank addr sp (after_steps m rank j) ≡ false

-- after so many it has stopped or arrived, and these are one at least if it ran at all
pub record HasReturned (points : List Point) (m : MachineState) (rank addr sp count : ℕ) : Type 0 where
  pub on : GoesOn points m rank addr sp count
  pub some : is_enabled m (event.Step rank) ≡ true → 0 < count
  pub arrived : is_enabled (after_steps m rank count) (event.Step rank) ≡ true
      → has_arrived points rank addr sp (after_steps m rank count) ≡ true

-- it runs after so many, and has not arrived
pub record IsReturning (points : List Point) (m : MachineState) (rank addr sp count : ℕ) : Type 0 where
  pub on : GoesOn points m rank addr sp count
  pub runs : is_enabled (after_steps m rank count) (event.Step rank) ≡ true
  pub passes : 0 < count → has_arrived points rank addr sp (after_steps m rank count) ≡ false

-- ---- over an instruction

abbrev pub is_call : Instr → Bool
is_call (R op rd rs1 rs2) = false
is_call (I op rd rs1 imm) = false
is_call (Shift op rd rs1 shamt) = false
is_call (Load op rd rs1 imm) = false
is_call (Store op rs1 rs2 imm) = false
is_call (Branch op rs1 rs2 imm) = false
is_call (Upper op rd imm) = false
is_call (Jal rd imm) = rd == 1
is_call (Jalr rd rs1 imm) = rd == 1
is_call (Plain op) = false

-- how long a code is, where it is a call
abbrev pub call_length : Code → Option ℕ
call_length code = if option_map_or is_call (decoded code) false then Some (length_of code) else None

-- where the call returns at which a hart stands, if it stands at one: to the instruction behind it
abbrev pub return_address : Hart → Option ℕ
return_address h = option_and_then (λ code. option_map_or (λ length. Some (next_pc length h)) (call_length code) None) (fetched h)

-- what steps over the instruction at which a node of a rank stands: a step, and where that is a call, on to where it returns
abbrev pub over_node : (rank : ℕ) → NodeState → Command
over_node rank n = option_map_or (λ addr. Return rank addr (reg n.hart 2)) (return_address n.hart) (Step rank 1)

abbrev pub over : MachineState → (rank : ℕ) → Command
over m rank = option_map_or (over_node rank) (slice_get m.nodes rank) (Step rank 1)

-- ---- the next step of all

-- the rank that would make it: the lowest that runs; where none does, rank 0 stands for it
abbrev pub next_rank : MachineState → ℕ
next_rank m = option_map_or (λ (n : NodeState). n.hart.rank) (lowest is_running m.nodes) 0
