-- What the clock's answer keeps of a hart, and that an instruction that goes on is no call of the clock.
use Rattle.std.proofs.Common.{◌≡◌, ℕ, ◌/◌, ◌%◌, ◌^◌, false, ◌&&◌, Option, Some, None, refl, ap}
use Rattle.std.specs.Prelude.{◌==◌, if◌then◌else◌}
use Rattle.node_core.specs.declared.state.Fault.{Fault}
use Rattle.node_core.specs.Clock.{asks_clock, clock_number, clocked, is_of_call, tells}
use Rattle.node_core.specs.Hart.{Hart, After, faults, goes_on, reg, with_reg}
use Rattle.node_core.proofs.Calls.{Keeps-if, Keeps-advanced}
use Rattle.node_core.proofs.Harts.{Keeps, Keeps-reg, Keeps-then}

Keeps-tells : (h : Hart) (time : ℕ) → Keeps h (tells time h).hart
Keeps-tells h time =
    let low = with_reg 10 (time % 2 ^ 32) h in
    let both = with_reg 11 (time / 2 ^ 32) low in
    Keeps-advanced h both (Keeps-then h low both (Keeps-reg h 10 (time % 2 ^ 32)) (Keeps-reg low 11 (time / 2 ^ 32)))

pub Keeps-clocked : (h : Hart) (time : Option ℕ) (after : After) → Keeps h after.hart → Keeps h (clocked time after).hart
Keeps-clocked h None after keeps = keeps
Keeps-clocked h (Some time) after keeps =
    Keeps-if h (asks_clock after) (tells time after.hart) after (λ asks. Keeps-then h after.hart _ keeps (Keeps-tells after.hart time))
    keeps

pub clocked-on : (time : Option ℕ) (h : Hart) → clocked time (goes_on h) ≡ goes_on h
clocked-on None h = refl
clocked-on (Some time) h = refl

-- no other fault is answered
pub clocked-fault : (time : Option ℕ) (f : Fault) (h : Hart) → is_of_call f ≡ false → clocked time (faults f h) ≡ faults f h
clocked-fault None f h other = refl
clocked-fault (Some time) f h other = ap (λ b. if b && reg h 17 == clock_number then tells time h else faults f h) other
