-- What a step keeps true of a node, and that its steps come to an end.
use Rattle.std.proofs.Common.{◌≡◌, ℕ, zero, suc, ◌+◌, ◌-◌, ◌≤◌, ◌<◌, Bool, true, false, List, refl, ◌∙◌, arith}
use Rattle.bsp_requests.specs.Message.{Message}
use Rattle.node_core.specs.declared.state.State.{State}
use Rattle.node_core.specs.declared.state.State.TheVariants.{Running, Synced}
use Rattle.node_core.specs.Hart.{After, IsHart}
use Rattle.node_core.specs.Clock.{clocked, time_at}
use Rattle.node_core.specs.Executed.{executed}
use Rattle.node_core.specs.Node.{NodeState, IsNode, IsSoundNode, IsLater, is_running, state_at, ticked, local_step, local_steps, phase}
use Rattle.node_core.specs.Turn.{next_superstep}
use Rattle.node_core.proofs.Clocks.{Keeps-clocked}
use Rattle.node_core.proofs.Effects.{Keeps-executed}
use Rattle.node_core.proofs.Harts.{Keeps, Keeps-same, Extends-then}
use Rattle.node_core.proofs.Steps.{local_step-stopped, local_steps-stopped, local_steps-suc, local_steps-zero}

-- a state that still runs is not at the limit
pub state_at-running : (state : State) (ticks limit : ℕ) → is_running (state_at state ticks limit) ≡ true → ticks ≤ limit → ticks < limit
state_at-running state ticks limit runs within = grind arith

pub IsNode-ticked : (after : After) (s : NodeState) → IsNode s → is_running s.state ≡ true → IsNode (ticked after s)
IsNode-ticked after s sound runs = record {
  limited = sound.limited;
  within = omega (arith, sound.has_ticks_left runs);
  has_ticks_left = λ still. state_at-running after.state (s.ticks + 1) s.limit still (omega (arith, sound.has_ticks_left runs));
  has_stepped = λ _. omega arith;
  is_fresh = λ none. absurd (omega (arith, none));
}

-- a node that waits is sound at the start of the next superstep
pub IsNode-next : (queue : List Message) (s : NodeState) → IsNode s → s.state ≡ Synced → IsNode (next_superstep queue s)
IsNode-next queue s sound waits = record {
  limited = sound.limited;
  within = sound.within;
  has_ticks_left = λ runs. state_at-running Running s.ticks s.limit runs sound.within;
  has_stepped = λ _. sound.has_stepped (rw waits refl);
  is_fresh = λ none. absurd (omega (arith, none, sound.has_stepped (rw waits refl)));
}

-- what the instruction at pc comes to
abbrev pub made : List ℕ → NodeState → After
made input s = clocked (time_at s.clock s.ticks) (executed input s.hart)

Keeps-made : (input : List ℕ) (s : NodeState) → Keeps s.hart (made input s).hart
Keeps-made input s = Keeps-clocked s.hart (time_at s.clock s.ticks) (executed input s.hart) (Keeps-executed s.hart input)

pub local_step-running : (input : List ℕ) (s : NodeState) → is_running s.state ≡ true → local_step input s ≡ ticked (made input s) s
unfolding local_step
local_step-running input s runs = rw runs refl

-- a step of a node that runs is one tick
pub local_step-ticks : (input : List ℕ) (s : NodeState) → is_running s.state ≡ true → (local_step input s).ticks ≡ s.ticks + 1
local_step-ticks input s runs = rw (local_step-running input s runs) refl

IsLater-from : (s t : NodeState) → Keeps s.hart t.hart → t.limit ≡ s.limit → t.clock ≡ s.clock → s.ticks ≤ t.ticks → IsLater s t
IsLater-from s t keeps limit clock ticks = record {
  rank = keeps.rank;
  nprocs = keeps.nprocs;
  memory_size = keeps.memory_size;
  limit = limit;
  clock = clock;
  in_effect = keeps.communication.in_effect;
  tag_size = keeps.communication.tag_size;
  changes = keeps.communication.changes;
  requests = keeps.communication.requests;
  output = keeps.communication.output;
  limits = keeps.communication.limits;
  unit = keeps.unit;
  reservation = keeps.reservation;
  ticks = ticks;
}

IsLater-then : (a b c : NodeState) → IsLater a b → IsLater b c → IsLater a c
IsLater-then a b c first second = record {
  rank = second.rank ∙ first.rank;
  nprocs = second.nprocs ∙ first.nprocs;
  memory_size = second.memory_size ∙ first.memory_size;
  limit = second.limit ∙ first.limit;
  clock = second.clock ∙ first.clock;
  in_effect = second.in_effect ∙ first.in_effect;
  tag_size = second.tag_size ∙ first.tag_size;
  changes =
      Extends-then a.hart.communication.registrations.changes b.hart.communication.registrations.changes
      c.hart.communication.registrations.changes first.changes second.changes;
  requests =
      Extends-then a.hart.communication.requests.requests b.hart.communication.requests.requests c.hart.communication.requests.requests
      first.requests second.requests;
  output =
      Extends-then a.hart.communication.requests.output b.hart.communication.requests.output c.hart.communication.requests.output
      first.output second.output;
  limits = λ large has. second.limits large (first.limits large has);
  unit = second.unit ∙ first.unit;
  reservation = second.reservation ∙ first.reservation;
  ticks = omega (arith, first.ticks, second.ticks);
}

IsLater-same : (s : NodeState) → IsLater s s
IsLater-same s = IsLater-from s s (Keeps-same s.hart) refl refl (omega arith)

IsLater-ticked : (after : After) (s : NodeState) → Keeps s.hart after.hart → IsLater s (ticked after s)
IsLater-ticked after s keeps = IsLater-from s (ticked after s) keeps refl refl (omega arith)

later_by : (runs : Bool) (input : List ℕ) (s : NodeState) → is_running s.state ≡ runs → IsLater s (local_step input s)
later_by true input s is = rw (local_step-running input s is) (IsLater-ticked (made input s) s (Keeps-made input s))
later_by false input s is = rw (local_step-stopped input s is) (IsLater-same s)

pub IsLater-local_step : (input : List ℕ) (s : NodeState) → IsLater s (local_step input s)
IsLater-local_step input s = later_by (is_running s.state) input s refl

pub IsLater-local_steps : (input : List ℕ) (n : ℕ) (s : NodeState) → IsLater s (local_steps input n s)
IsLater-local_steps input zero s = rw (local_steps-zero input s) (IsLater-same s)
IsLater-local_steps input (suc n) s =
    rw (local_steps-suc input n s)
    (IsLater-then s (local_step input s) (local_steps input n (local_step input s)) (IsLater-local_step input s)
    (IsLater-local_steps input n (local_step input s)))

hart_by : (runs : Bool) (input : List ℕ) (s : NodeState) → is_running s.state ≡ runs → IsHart s.hart → IsHart (local_step input s).hart
hart_by true input s is sound = rw (local_step-running input s is) ((Keeps-made input s).sound sound)
hart_by false input s is sound = rw (local_step-stopped input s is) sound

sound_by : (runs : Bool) (input : List ℕ) (s : NodeState) → is_running s.state ≡ runs → IsNode s → IsNode (local_step input s)
sound_by true input s is sound = rw (local_step-running input s is) (IsNode-ticked (made input s) s sound is)
sound_by false input s is sound = rw (local_step-stopped input s is) sound

pub IsNode-local_step : (input : List ℕ) (s : NodeState) → IsNode s → IsNode (local_step input s)
IsNode-local_step input s sound = sound_by (is_running s.state) input s refl sound

pub IsSoundNode-local_step : (input : List ℕ) (s : NodeState) → IsSoundNode s → IsSoundNode (local_step input s)
IsSoundNode-local_step input s sound =
    record { node = IsNode-local_step input s sound.node; hart = hart_by (is_running s.state) input s refl sound.hart }

pub IsSoundNode-local_steps : (input : List ℕ) (n : ℕ) (s : NodeState) → IsSoundNode s → IsSoundNode (local_steps input n s)
IsSoundNode-local_steps input zero s sound = rw (local_steps-zero input s) sound
IsSoundNode-local_steps input (suc n) s sound =
    rw (local_steps-suc input n s) (IsSoundNode-local_steps input n (local_step input s) (IsSoundNode-local_step input s sound))

-- a step of a node that runs leaves it one tick less
ticks_left : (input : List ℕ) (s : NodeState) (n : ℕ) → is_running s.state ≡ true → s.limit - s.ticks ≤ suc n
    → (local_step input s).limit - (local_step input s).ticks ≤ n
ticks_left input s n runs left = rw (local_step-running input s runs) (omega arith)

end_by : (runs : Bool) (input : List ℕ) (n : ℕ) (s : NodeState) → is_running s.state ≡ runs → IsNode s → s.limit - s.ticks ≤ n
    → is_running (local_steps input n s).state ≡ false
end_by false input n s is sound left = rw (local_steps-stopped input n s is) is
end_by true input zero s is sound left = absurd (omega (arith, sound.has_ticks_left is))
end_by true input (suc n) s is sound left =
    rw (local_steps-suc input n s)
    (end_by (is_running (local_step input s).state) input n (local_step input s) refl (IsNode-local_step input s sound)
    (ticks_left input s n is left))

-- n steps are enough for a node that has at most n ticks left
pub local_steps-end : (input : List ℕ) (n : ℕ) (s : NodeState) → IsNode s → s.limit - s.ticks ≤ n
    → is_running (local_steps input n s).state ≡ false
local_steps-end input n s sound left = end_by (is_running s.state) input n s refl sound left

-- after its local part a node does not run, so that another one changes nothing
pub phase-phase : (input : List ℕ) (s : NodeState) → IsNode s → phase input (phase input s) ≡ phase input s
phase-phase input s sound = local_steps-stopped input _ (phase input s) (local_steps-end input (s.limit - s.ticks) s sound (omega arith))
