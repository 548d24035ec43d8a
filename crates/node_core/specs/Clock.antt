-- The clock of a node, and the call that reads it. It tells what the run has cost so far by the model of BSP (Valiant 1990; BSPlib, Hill
-- and others 1998: `bsp_time` is a process's own time), never a host's time (own rules).
use Rattle.std.specs.Prelude.{ℕ, ◌+◌, ◌-◌, ◌/◌, ◌%◌, ◌^◌, ◌==◌, Bool, true, false, ◌&&◌, min, Option, Some, None, option_map, if◌then◌else◌}
use Rattle.node_core.specs.declared.clock.Clock.{Clock}
use Rattle.node_core.specs.declared.state.State.{State}
use Rattle.node_core.specs.declared.state.State.TheVariants.{Faulted}
use Rattle.node_core.specs.declared.state.Fault.{Fault}
use Rattle.node_core.specs.declared.state.Fault.TheVariants.{UnknownCall}
use Rattle.node_core.specs.Hart.{Hart, After, reg, with_reg, advanced, goes_on}

-- what a clock shows where its node has made so many ticks: the cost of the supersteps that are over, and the node's ticks in this one,
-- as far as 64 bits reach
abbrev pub time : Clock → ℕ → ℕ
time clock ticks = min (clock.closed + (ticks - clock.since)) (2 ^ 64 - 1)

-- likewise what a node's clock shows, if it has one
abbrev pub time_at : Option Clock → ℕ → Option ℕ
time_at clock ticks = option_map (λ c. time c ticks) clock

-- the number of the call that reads the clock, which is that of no other
abbrev pub clock_number : ℕ
clock_number = 19

-- a fault is that of an ECALL whose number no call has
abbrev pub is_of_call : Fault → Bool
is_of_call UnknownCall = true
is_of_call _ = false

-- a state is that fault
abbrev pub is_unknown_call : State → Bool
is_unknown_call (Faulted fault) = is_of_call fault
is_unknown_call _ = false

-- the instruction was an ECALL with the clock's number. A fault has left the hart as it was
abbrev pub asks_clock : After → Bool
asks_clock after = is_unknown_call after.state && reg after.hart 17 == clock_number

-- the call's answer: the low word of the time in a0 (x10), and the high one in a1
abbrev pub tells : ℕ → Hart → After
tells time h = goes_on (advanced (with_reg 11 (time / 2 ^ 32) (with_reg 10 (time % 2 ^ 32) h)))

-- what an instruction comes to on a node whose clock shows this time, if it has one. Without a clock the call is as unknown as any
abbrev pub clocked : Option ℕ → After → After
clocked None after = after
clocked (Some time) after = if asks_clock after then tells time after.hart else after
