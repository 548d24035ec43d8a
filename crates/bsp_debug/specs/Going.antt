-- How far `Go` has come.
use Rattle.std.specs.Prelude.{◌≡◌, ◌≢◌, ℕ, ◌+◌, ◌<◌, ◌⊎◌, false, List, [], Option, Some, None, Result, Ok, Err}
use Rattle.machine_core.specs.declared.event.Event.TheVariants.{Step}
use Rattle.machine_core.specs.Machine.{MachineState}
use Rattle.machine_core.specs.Events.{is_enabled}
use Rattle.machine_core.specs.Walk.{walk}
use Rattle.bsp_debug.specs.declared.point.Point.{Point}
use Rattle.bsp_debug.specs.Made.{events_of}
use Rattle.bsp_debug.specs.declared.reply.Reply.{Reply}
use Rattle.bsp_debug.specs.Reply.{answer, stopped}
use Rattle.bsp_debug.specs.Stops.{address_stop, stop_after, Passes, Goes, IsOnTheWay}
use Rattle.bsp_debug.specs.Trace.{Traced}

-- an event was made, and the last one led to no stop, unless to one at an address, which is still to be looked at
pub record IsBeforeAddress (points : List Point) (t : Traced) : Type 0 where
  pub some : t.made ≢ []
  pub before : ℕ
  pub passes : Passes points before t.start
  pub made : events_of t.made ≡ walk (before + 1) t.start
  pub stop : stop_after points before t.start ≡ address_stop points t.machine

-- `Go` is on its way: it has made no event, or the address is still to be looked at
abbrev pub IsGoing : List Point → Traced → Type 0
IsGoing points t = (t.made ≡ []) ⊎ IsBeforeAddress points t

-- the nodes below a rank do not run
abbrev pub HaveStoppedBelow : ℕ → MachineState → Type 0
HaveStoppedBelow rank m = (j : ℕ) → j < rank → is_enabled m (Step j) ≡ false

-- what a part of `Go` that may come to a point leaves, by its answer: `Go` is on its way, or at its stop, or was refused memory
abbrev pub HasGone : {E : Type 0} → List Point → Traced → Result (Option Point) E → Type 0
HasGone points t (Ok None) = IsGoing points t
HasGone points t (Ok (Some point)) = Goes points t.start (events_of t.made) (stopped point)
HasGone points t (Err e) = IsOnTheWay points t.start (events_of t.made)

-- likewise a part that may come to any stop
abbrev pub HasGoneOrStopped : {A E : Type 0} → List Point → Traced → Result (Option (Reply A)) E → Type 0
HasGoneOrStopped points t (Ok None) = IsGoing points t
HasGoneOrStopped points t (Ok (Some reply)) = Goes points t.start (events_of t.made) (answer reply)
HasGoneOrStopped points t (Err e) = IsOnTheWay points t.start (events_of t.made)
