-- What a debugger keeps, and its machine, are reached from the machine with which it began.
use Rattle.std.proofs.Common.{◌≡◌, ℕ, ◌+◌, ◌<◌, true, List, [], ◌∷◌, ◌++◌, length, Option, Some, None, refl, sym, ap, subst, ◌∙◌}
use Rattle.std.specs.Prelude.{All, IfSome, IsSome, if◌then◌else◌, is_some, option_copied, slice_get}
use Rattle.std.specs.Option.{option_flatten}
use Rattle.std.specs.Slice.{IsItemAt}
use Rattle.std.proofs.lemmas.List.Elements.{All-append, All-cons, All-get_or, All-nil, All-set}
use Rattle.std.proofs.lemmas.Option.{get_or_from_slice_get, slice_get_past, slice_get_read, slice_get_within}
use denote.Ref.{Bor}
use Rattle.machine_core.specs.declared.event.Event.{Event}
use Rattle.machine_core.specs.Machine.{MachineState}
use Rattle.machine_core.specs.Events.{after}
use Rattle.machine_core.specs.Sound.{IsSoundMachine}
use Rattle.machine_core.specs.Turn.{end_of}
use Rattle.machine_core.proofs.Ends.{end_of-after, end_of-there}
use Rattle.machine_core.proofs.Sound.{IsSoundMachine-after}
use Rattle.machine_core.proofs.Steps.{after-nil}
use Rattle.bsp_debug.specs.declared.point.Point.{Point}
use Rattle.bsp_debug.specs.Debugger.{DebuggerState}
use Rattle.bsp_debug.specs.Kept.{state_at, kept_fault, keeping, without}
use Rattle.bsp_debug.specs.Made.{events_of}
use Rattle.bsp_debug.specs.Points.{is_set}
use Rattle.bsp_debug.specs.Reached.{IsReached, HasReachedStates, EndsAs}
use Rattle.bsp_debug.specs.Trace.{Traced, IsTrace}
use Rattle.bsp_debug.proofs.Entries.{after-append}

-- a state that is kept, if one is, is reached
abbrev pub IsReachedIfKept : MachineState → Option MachineState → Type 0
IsReachedIfKept first state = IfSome state (λ m. IsReached first m)

pub reached-first : (m : MachineState) → IsReached m m
reached-first m = record { schedule = []; led = sym (after-nil m) }

pub reached-after : (first m : MachineState) (events : List Event) → IsReached first m → IsReached first (after m events)
reached-after first m events r = record {
  schedule = r.schedule ++ events;
  led = ap (λ (x : MachineState). after x events) r.led ∙ sym (after-append first r.schedule events);
}

-- every schedule that finishes from a machine that is reached leaves the end of the first
pub ends-schedule : (first m : MachineState) (schedule : List Event) → IsSoundMachine first → IsReached first m
    → IsSome (after m schedule).outcome → after m schedule ≡ end_of first
ends-schedule first m schedule sound r over =
    let whole : after m schedule ≡ after first (r.schedule ++ schedule) =
    ap (λ (x : MachineState). after x schedule) r.led ∙ sym (after-append first r.schedule schedule) in
    sym (end_of-there (after m schedule) over) ∙ ap end_of whole ∙ end_of-after first (r.schedule ++ schedule) sound

-- so a machine that is reached has that end
pub reached-ends : (first m : MachineState) → IsSoundMachine first → IsReached first m → EndsAs first m
reached-ends first m sound r = record {
  sound = subst IsSoundMachine (sym r.led) (IsSoundMachine-after first r.schedule sound);
  same = ap end_of r.led ∙ end_of-after first r.schedule sound;
  every_schedule = λ schedule over. ends-schedule first m schedule sound r over;
}

-- and so does a state that is kept, if one is
pub kept-ends : (first : MachineState) → IsSoundMachine first → (state : Option MachineState) → IsReachedIfKept first state
    → IfSome state (λ m. EndsAs first m)
kept-ends first sound (Some m) r = reached-ends first m sound r
kept-ends first sound None r = tt

-- it begins, and keeps nothing
pub reached-new : (d : DebuggerState) → IsSoundMachine d.first → d.machine ≡ d.first → d.kept ≡ [] → HasReachedStates d
reached-new d sound machine kept = record {
  first = sound;
  machine = subst (IsReached d.first) (sym machine) (reached-first d.first);
  kept = subst (All (IsReachedIfKept d.first)) (sym kept) (All-nil (IsReachedIfKept d.first));
}

-- it has made events
pub reached-trace : (d : DebuggerState) (t : Traced) → IsTrace t → t.start ≡ d.machine → HasReachedStates d
    → HasReachedStates (record d { machine = t.machine; last = t.made })
reached-trace d t is start r =
    let led : t.machine ≡ after d.machine (events_of t.made) = is.machine ∙ ap (λ (x : MachineState). after x (events_of t.made)) start in
    record {
      first = r.first;
      machine = subst (IsReached d.first) (sym led) (reached-after d.first d.machine (events_of t.made) r.machine);
      kept = r.kept;
    }

-- it keeps its machine's state
pub reached-keep : (d : DebuggerState) → HasReachedStates d → HasReachedStates (keeping d)
reached-keep d r = record {
  first = r.first;
  machine = r.machine;
  kept = All-append (IsReachedIfKept d.first) d.kept (Some d.machine ∷ []) r.kept
      (All-cons (IsReachedIfKept d.first) (Some d.machine) [] r.machine (All-nil (IsReachedIfKept d.first)));
}

-- it has forgotten a state
pub reached-without : (d : DebuggerState) (number : ℕ) → HasReachedStates d → HasReachedStates (without number d)
reached-without d number r = record {
  first = r.first;
  machine = r.machine;
  kept = All-set (IsReachedIfKept d.first) d.kept number None tt r.kept;
}

flatten-some : (o : Option (Option MachineState)) (m : MachineState) → option_flatten o ≡ Some m → o ≡ Some (Some m)
flatten-some (Some (Some x)) m is = ap Some is
flatten-some (Some None) m is = absurd cc
flatten-some None m is = absurd cc

-- it has gone back
pub reached-back : (d : DebuggerState) (number : ℕ) (m : MachineState) → state_at d.kept number ≡ Some m → HasReachedStates d
    → HasReachedStates (record d { machine = m; last = [] })
reached-back d number m is r =
    let place : slice_get d.kept number ≡ Some (Some m) = flatten-some (slice_get d.kept number) m is in
    let here = All-get_or (IsReachedIfKept d.first) d.kept number (Some m) (slice_get_within d.kept number (Some m) place) r.kept in
    record {
      first = r.first;
      machine = subst (IsReachedIfKept d.first) (get_or_from_slice_get d.kept number (Some m) (Some m) place) here;
      kept = r.kept;
    }

-- a state was found under a number
some-found : (found : Option (Bor MachineState)) (kept : List (Option MachineState)) (number : ℕ) → is_some found ≡ true
    → option_copied found ≡ state_at kept number → (m : MachineState) × (state_at kept number ≡ Some m)
some-found (Some b) kept number there is = (b.now, sym is)
some-found None kept number there is = absurd cc

-- so the number is a place of the list
pub found-within : (found : Option (Bor MachineState)) (kept : List (Option MachineState)) (number : ℕ) → is_some found ≡ true
    → option_copied found ≡ state_at kept number → number < length kept
found-within found kept number there is =
    let some = some-found found kept number there is in
    slice_get_within kept number (Some some.0) (flatten-some (slice_get kept number) some.0 some.1)

pub found-faultless : (found : Option (Bor MachineState)) (kept : List (Option MachineState)) (number : ℕ) → is_some found ≡ true
    → option_copied found ≡ state_at kept number → kept_fault kept number ≡ None
found-faultless found kept number there is =
    let some = some-found found kept number there is in
    rw some.1 refl

-- what `get` lends of the states that are kept is at its place
pub got-kept : (d now : DebuggerState) (xs : List (Option MachineState)) (number : ℕ) (r : Option (Bor (Option MachineState)))
    → IsItemAt xs number r → xs ≡ d.kept → d ≡ now → option_copied r ≡ slice_get now.kept number
got-kept d now xs number r is kept view =
    element_got xs number r is ∙ ap (λ ys. slice_get ys number) kept ∙ ap (λ (x : DebuggerState). slice_get x.kept number) view
  where
    element_got : {X : Type 0} (ys : List X) (i : ℕ) (r : Option (Bor X)) → IsItemAt ys i r → option_copied r ≡ slice_get ys i
    element_got ys i None is = sym (slice_get_past ys i is.3)
    element_got ys i (Some x) is = sym (slice_get_read ys (length ys) i x.now refl is.3.0 is.1)

module _ (r : Option (Bor (Option MachineState))) (there : Option (Option MachineState)) where
  pub state-found : (b : Bor (Option MachineState)) (m : MachineState) → r ≡ Some b → b.now ≡ Some m → option_copied r ≡ there
      → Some m ≡ option_flatten there
  state-found b m is now got =
      let some : option_copied r ≡ Some (Some m) = ap option_copied is ∙ ap Some now in
      ap option_flatten (sym some ∙ got)

  pub state-forgotten : (b : Bor (Option MachineState)) → r ≡ Some b → b.now ≡ None → option_copied r ≡ there → None ≡ option_flatten there
  state-forgotten b is now got =
      let some : option_copied r ≡ Some None = ap option_copied is ∙ ap Some now in
      ap option_flatten (sym some ∙ got)

  pub state-none : r ≡ None → option_copied r ≡ there → None ≡ option_flatten there
  state-none is got =
      let none : option_copied r ≡ None = ap option_copied is in
      ap option_flatten (sym none ∙ got)

-- a debugger with other points
pub same-points : (d now : DebuggerState) (points : List Point) → d ≡ now
    → let a : DebuggerState = record d { points = points } in
    let b : DebuggerState = record now { points = points } in
    a ≡ b
same-points d now points view = ap (λ (x : DebuggerState). let y : DebuggerState = record x { points = points } in y) view

pub points-counted : (d now : DebuggerState) (points : List Point) (p : Point)
    → length points ≡ length d.points + (if is_set d.points p then 0 else 1) → d ≡ now
    → length points ≡ length now.points + (if is_set now.points p then 0 else 1)
points-counted d now points p count view = count ∙ ap (λ (x : DebuggerState). length x.points + (if is_set x.points p then 0 else 1)) view
