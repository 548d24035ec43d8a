-- `Go` through one node, and through the turn.
use Rattle.std.proofs.Common.{◌≡◌, ◌≢◌, ℕ, zero, suc, ◌+◌, ◌-◌, ◌<◌, ◌≤◌, inl, inr, Bool, true, false, List, [], ◌∷◌, ◌++◌, replicate}
use Rattle.std.proofs.Common.{Option, Some, None, option_map, Ok, refl, sym, ap, subst, ◌∙◌, arith, zero-add, suc-add, add-one}
use Rattle.std.specs.Prelude.{if◌then◌else◌}
use Rattle.std.proofs.lemmas.Bool.{cases_order, false≢true}
use Rattle.std.proofs.lemmas.List.{append_assoc}
use Rattle.machine_core.specs.declared.event.Event.{Event}
use Rattle.machine_core.specs.declared.event.Event.TheVariants.{Step, Turn}
use Rattle.machine_core.specs.declared.outcome.Outcome.{Outcome}
use Rattle.machine_core.specs.Machine.{MachineState}
use Rattle.machine_core.specs.Events.{some_runs, is_enabled, event, after}
use Rattle.machine_core.specs.Sound.{IsSoundMachine}
use Rattle.machine_core.specs.Walk.{next_event}
use Rattle.machine_core.proofs.Runs.{after-often}
use Rattle.machine_core.proofs.Sound.{IsSoundMachine-after}
use Rattle.machine_core.proofs.Steps.{after-nil}
use Rattle.machine_core.proofs.Supersteps.{none_is_lowest}
use Rattle.machine_core.proofs.Walks.{enabled-others, stopped-after}
use Rattle.bsp_debug.specs.declared.made.Made.{Made}
use Rattle.bsp_debug.specs.declared.made.Made.TheVariants as entry
use Rattle.bsp_debug.specs.declared.point.Point.{Point}
use Rattle.bsp_debug.specs.declared.point.Point.TheVariants.{Superstep}
use Rattle.bsp_debug.specs.Going.{IsBeforeAddress, IsGoing, HaveStoppedBelow, HasGone}
use Rattle.bsp_debug.specs.Made.{events_of}
use Rattle.bsp_debug.specs.Points.{is_set}
use Rattle.bsp_debug.specs.Reply.{Answer, stopped, finished}
use Rattle.bsp_debug.specs.Stops.{address_stop, stop_at, Goes, IsOnTheWay}
use Rattle.bsp_debug.specs.Trace.{Traced, IsTrace, with_steps, after_steps, stepped, turned}
use Rattle.bsp_debug.specs.Trace.{EndsBelow, point_at, RunsOn, RunsToPoint, RunsOnTo}
use Rattle.bsp_debug.proofs.Counts.{after_steps-zero, after_steps-suc, after_steps-disabled}
use Rattle.bsp_debug.proofs.Entries.{with_some, events_of-steps, events_of-more, EndsBelow-steps}
use Rattle.bsp_debug.proofs.Stops.{Passes-next, address_stop-at, address_stop-none, point_at-stopped, point_at-enabled, stop_at-step}
use Rattle.bsp_debug.proofs.Traces.{after_steps-last}
use Rattle.bsp_debug.proofs.Ways.{IsWay, IsWay-start, IsLast, IsWay-last, IsWay-part, IsWay-step, IsWay-steps}

replicate-last : {X : Type 0} (k : ℕ) (x : X) → replicate k x ++ x ∷ [] ≡ replicate (suc k) x
replicate-last zero x = refl
replicate-last (suc k) x = ap (λ xs. x ∷ xs) (replicate-last k x)

after_steps-add : (j k : ℕ) (m : MachineState) (rank : ℕ) → after_steps m rank (j + k) ≡ after_steps (after_steps m rank j) rank k
after_steps-add zero k m rank =
    ap (after_steps m rank) (zero-add k) ∙ ap (λ (x : MachineState). after_steps x rank k) (sym (after_steps-zero m rank))
after_steps-add (suc j) k m rank =
    ap (after_steps m rank) (suc-add j k) ∙ after_steps-suc m rank (j + k) ∙ after_steps-add j k (event m (Step rank)) rank
    ∙ ap (λ (x : MachineState). after_steps x rank k) (sym (after_steps-suc m rank j))

module _ (points : List Point) (t : Traced) where
  -- once the address is looked at, `Go` is on its way
  pub IsGoing-way : IsTrace t → IsGoing points t → (t.made ≢ [] → address_stop points t.machine ≡ None)
      → IsWay points t.start t.machine (events_of t.made)
  IsGoing-way trace (inl none) free =
      let start : t.machine ≡ t.start = trace.machine ∙ ap (λ xs. after t.start (events_of xs)) none ∙ after-nil t.start in
      rw (start, none) (IsWay-start points t.start)
  IsGoing-way trace (inr last) free = record {
    count = last.before + 1;
    passes = Passes-next points last.before t.start last.passes (last.stop ∙ free last.some);
    machine = trace.machine ∙ ap (after t.start) last.made;
    made = last.made;
  }

  -- or at its stop
  pub IsGoing-stop : (stop : Answer) → IsGoing points t → t.made ≢ [] → address_stop points t.machine ≡ Some stop
      → Goes points t.start (events_of t.made) stop
  IsGoing-stop stop (inl none) some here = absurd (some none)
  IsGoing-stop stop (inr last) some here = record { before = last.before; passes = last.passes; stops = last.stop ∙ here; made = last.made }

  -- an event that was taken down, by the stop that it leads to
  last-going : t.made ≢ [] → IsLast points t.start t.machine (events_of t.made) (address_stop points t.machine) → IsBeforeAddress points t
  last-going some last = record { some = some; before = last.before; passes = last.passes; made = last.made; stop = last.stop }

last-goes : (points : List Point) (start m : MachineState) (events : List Event) (stop : Answer) → IsLast points start m events (Some stop)
    → Goes points start events stop
last-goes points start m events stop last = record { before = last.before; passes = last.passes; stops = last.stop; made = last.made }

-- a list with an element at its end is not empty
more-some : (entries : List Made) (e : Made) → entries ++ e ∷ [] ≢ []
more-some [] e none = cc
more-some (x ∷ entries) e none = cc

steps-some : (entries : List Made) (rank count : ℕ) → with_steps entries rank (suc count) ≢ []
steps-some entries rank count none = more-some entries (entry.Steps rank (suc count)) (sym (with_some entries rank count) ∙ none)

module _ (points : List Point) (t : Traced) (rank : ℕ) (trace : IsTrace t) (sound : IsSoundMachine t.machine)
    (open_yet : t.machine.outcome ≡ None)
    (below : HaveStoppedBelow rank t.machine) where
  sound-steps : (k : ℕ) → IsSoundMachine (after_steps t.machine rank k)
  sound-steps k = IsSoundMachine-after t.machine (replicate k (Step rank)) sound

  open-steps : (k : ℕ) → (after_steps t.machine rank k).outcome ≡ None
  open-steps k = ap (λ (x : MachineState). x.outcome) (after-often k t.machine rank) ∙ open_yet

  below-steps : (k : ℕ) → HaveStoppedBelow rank (after_steps t.machine rank k)
  below-steps k j within = enabled-others k t.machine rank j (λ same. omega (arith, same, within)) ∙ below j within

  -- some steps, after the last of which the address is still to be looked at
  node-going : (c : ℕ) → IsWay points t.start t.machine (events_of t.made) → RunsOn points t.machine rank (suc c)
      → IsBeforeAddress points (stepped rank (suc c) t)
  node-going c way on =
      let m = t.machine in
      let before = after_steps m rank c in
      let on_way = IsWay-steps points t.start rank c m (events_of t.made) sound open_yet below
      (λ j within. on.runs j (omega (arith, within))) (λ j some within. on.passes j some (omega (arith, within))) way in
      let last = IsWay-step points t.start rank before (events_of t.made ++ replicate c (Step rank)) (sound-steps c) (open-steps c)
      (below-steps c) (on.runs c (omega arith)) on_way in
      let here : event before (Step rank) ≡ after_steps m rank (suc c) =
      sym (after_steps-last c m rank) ∙ ap (after_steps m rank) (add-one c) in
      let events : (events_of t.made ++ replicate c (Step rank)) ++ Step rank ∷ [] ≡ events_of (with_steps t.made rank (suc c)) =
      append_assoc (events_of t.made) (replicate c (Step rank)) (Step rank ∷ [])
      ∙ ap (λ xs. events_of t.made ++ xs) (replicate-last c (Step rank))
      ∙ sym (events_of-steps t.made rank (suc c)) in
      let stop : stop_at points (Step rank) (after_steps m rank (suc c)) ≡ address_stop points (after_steps m rank (suc c)) =
      stop_at-step points rank (after_steps m rank (suc c)) (open-steps (suc c)) in
      last-going points (stepped rank (suc c) t) (steps-some t.made rank c) (rw stop at rw events at rw here at last)

  -- where it stopped on the way
  stops-at : (count : ℕ) → RunsOn points t.machine rank count → is_enabled (after_steps t.machine rank count) (Step rank) ≡ false
      → after_steps t.machine rank count ≡ after_steps t.machine rank t.machine.settings.limit
  stops-at count on off =
      let limit = t.machine.settings.limit in
      elim (cases_order count limit) [
        | inl same ↦ ap (after_steps t.machine rank) same
        | inr other ↦ elim other [
          | inl before ↦
              sym (ap (after_steps t.machine rank) (let split : limit ≡ count + (limit - count) = omega (arith, before) in split)
              ∙ after_steps-add count (limit - count) t.machine rank
              ∙ after_steps-disabled (limit - count) (after_steps t.machine rank count) rank off)
          | inr past ↦ absurd (false≢true (sym (stopped-after t.machine rank sound) ∙ on.runs limit past))
        ]
      ]

  -- where it still runs, its limit lets it go on
  within-limit : (count : ℕ) → RunsOn points t.machine rank count → is_enabled (after_steps t.machine rank count) (Step rank) ≡ true
      → count < t.machine.settings.limit
  within-limit count on enabled =
      let limit = t.machine.settings.limit in
      elim (cases_order count limit) [
        | inl same ↦
            absurd (false≢true
            (sym (stopped-after t.machine rank sound) ∙ ap (λ k. is_enabled (after_steps t.machine rank k) (Step rank)) (sym same)
            ∙ enabled))
        | inr other ↦ elim other [
          | inl before ↦ before
          | inr past ↦ absurd (false≢true (sym (stopped-after t.machine rank sound) ∙ on.runs limit past))
        ]
      ]

  module _ (new : Traced) (most count : ℕ) (all : most ≡ t.machine.settings.limit) (r : RunsToPoint points t.machine rank most count)
      (is : new ≡ stepped rank count t) where
    machine-is : new.machine ≡ after_steps t.machine rank count
    machine-is = ap (λ (x : Traced). x.machine) is

    off-none : point_at points new.machine rank ≡ None → is_enabled (after_steps t.machine rank count) (Step rank) ≡ false
    off-none none = by (is_enabled (after_steps t.machine rank count) (Step rank)) refl
      where
        by : (enabled : Bool) → is_enabled (after_steps t.machine rank count) (Step rank) ≡ enabled
            → is_enabled (after_steps t.machine rank count) (Step rank) ≡ false
        by false off = off
        by true on =
            absurd (r.arrived on (omega (arith, all, within-limit count r.on on))
            (ap (λ (x : MachineState). point_at points x rank) (sym machine-is) ∙ none))

    pub node-whole : point_at points new.machine rank ≡ None → new.machine ≡ after_steps t.machine rank t.machine.settings.limit
    node-whole none = machine-is ∙ stops-at count r.on (off-none none)

    pub node-order : EndsBelow rank t.made → EndsBelow (rank + 1) new.made
    node-order ends = rw is (EndsBelow-steps rank count t.made ends)

    pub node-gone : (E : Type 0) (o : Option Point) → o ≡ point_at points new.machine rank → IsGoing points t
        → (is_enabled t.machine (Step rank) ≡ true → IsWay points t.start t.machine (events_of t.made)) → HasGone {E = E} points new (Ok o)
    node-gone E o found going way = by count refl
      where
        still : count ≡ 0 → new ≡ t
        still none =
            is ∙ ap (λ k. stepped rank k t) none ∙ ap (λ (x : MachineState). record t { machine = x }) (after_steps-zero t.machine rank)

        none-here : count ≡ 0 → point_at points new.machine rank ≡ None
        none-here none = point_at-stopped points new.machine rank (off (is_enabled new.machine (Step rank)) refl)
          where
            off : (enabled : Bool) → is_enabled new.machine (Step rank) ≡ enabled → is_enabled new.machine (Step rank) ≡ false
            off false is_off = is_off
            off true is_on =
                absurd (let some = r.some (ap (λ (x : Traced). is_enabled x.machine (Step rank)) (sym (still none)) ∙ is_on)
                (omega (arith, all, sound.settings.ticks)) in omega (arith, some, none))

        gone : (p : Option Point) → o ≡ p → IsBeforeAddress points new → HasGone {E = E} points new (Ok p)
        gone None none last = inr last
        gone (Some p) some last =
            let at : point_at points new.machine rank ≡ Some p = sym found ∙ some in
            let on = point_at-enabled points new.machine rank p at in
            let sound_new : IsSoundMachine new.machine = rw machine-is (sound-steps count) in
            let below_new : HaveStoppedBelow rank new.machine = rw machine-is (below-steps count) in
            IsGoing-stop points new (stopped p) (inr last) last.some
            (address_stop-at points new.machine rank sound_new below_new on ∙ ap (option_map stopped) at)

        by : (k : ℕ) → count ≡ k → HasGone {E = E} points new (Ok o)
        by zero none = rw (found ∙ none-here none) (rw (still none) going)
        by (suc c) some =
            let enabled : is_enabled t.machine (Step rank) ≡ true =
            sym (ap (λ (x : MachineState). is_enabled x (Step rank)) (after_steps-zero t.machine rank))
            ∙ r.on.runs 0 (omega (arith, some)) in
            let last : IsBeforeAddress points (stepped rank (suc c) t) = node-going c (way enabled) (rw some at r.on) in
            gone o refl (rw (is ∙ ap (λ k. stepped rank k t) some) last)

  -- where memory was refused
  pub node-refused : (new : Traced) (most count : ℕ) → RunsOnTo points t.machine rank most count → new ≡ stepped rank count t
      → (is_enabled t.machine (Step rank) ≡ true → IsWay points t.start t.machine (events_of t.made))
      → IsOnTheWay points new.start (events_of new.made)
  node-refused new most count r is way =
      let m = t.machine in
      let runs : (j : ℕ) → j ≤ count → is_enabled (after_steps m rank j) (Step rank) ≡ true =
      (λ j within. elim (cases_order j count) [
        | inl same ↦ ap (λ k. is_enabled (after_steps m rank k) (Step rank)) same ∙ r.runs
        | inr other ↦ elim other [
          | inl before ↦ r.on.runs j before
          | inr past ↦ absurd (omega (arith, within, past))
        ]
      ]) in
      let passes : (j : ℕ) → 0 < j → j ≤ count → point_at points (after_steps m rank j) rank ≡ None =
      (λ j some within. elim (cases_order j count) [
        | inl same ↦ ap (λ k. point_at points (after_steps m rank k) rank) same ∙ r.passes (omega (arith, some, same))
        | inr other ↦ elim other [
          | inl before ↦ r.on.passes j some before
          | inr past ↦ absurd (omega (arith, within, past))
        ]
      ]) in
      let first : is_enabled m (Step rank) ≡ true =
      sym (ap (λ (x : MachineState). is_enabled x (Step rank)) (after_steps-zero m rank)) ∙ runs 0 (omega arith) in
      let on_way = IsWay-steps points t.start rank count m (events_of t.made) sound open_yet below runs passes (way first) in
      let part = IsWay-part points t.start (after_steps m rank count) (events_of t.made ++ replicate count (Step rank)) on_way in
      rw is (rw (events_of-steps t.made rank count) part)

-- where the turn stops
module _ (points : List Point) (m : MachineState) where
  stop_at-finished : (o : Outcome) → m.outcome ≡ Some o → stop_at points Turn m ≡ Some (finished o)
  stop_at-finished o over = rw over refl

  stop_at-superstep : m.outcome ≡ None → is_set points (Superstep m.exchanges) ≡ true
      → stop_at points Turn m ≡ Some (stopped (Superstep m.exchanges))
  stop_at-superstep none set = rw (none, set) refl

  stop_at-address : m.outcome ≡ None → is_set points (Superstep m.exchanges) ≡ false → stop_at points Turn m ≡ address_stop points m
  stop_at-address none unset = rw (none, unset) refl

-- the turn
module _ (points : List Point) (t : Traced) (trace : IsTrace t) (open_yet : t.machine.outcome ≡ None)
    (stopped_all : some_runs t.machine.nodes ≡ false) where
  pub turn-way : IsGoing points t → IsWay points t.start t.machine (events_of t.made)
  turn-way going = IsGoing-way points t trace going (λ some. address_stop-none points t.machine stopped_all)

  next-turn : next_event t.machine ≡ Some Turn
  next-turn = rw (open_yet, none_is_lowest t.machine.nodes stopped_all) refl

  turn-last : IsGoing points t
      → IsLast points t.start (turned t).machine (events_of (turned t).made) (stop_at points Turn (turned t).machine)
  turn-last going =
      let last = IsWay-last points t.start t.machine (events_of t.made) Turn (turn-way going) next-turn in
      rw (events_of-more t.made entry.Turn) last

  pub turn-finished : (o : Outcome) → IsGoing points t → (turned t).machine.outcome ≡ Some o
      → Goes points t.start (events_of (turned t).made) (finished o)
  turn-finished o going over =
      last-goes points t.start (turned t).machine (events_of (turned t).made) (finished o)
      (subst (IsLast points t.start (turned t).machine (events_of (turned t).made)) (stop_at-finished points (turned t).machine o over)
      (turn-last going))

  pub turn-stopped : IsGoing points t → (turned t).machine.outcome ≡ None → is_set points (Superstep (turned t).machine.exchanges) ≡ true
      → Goes points t.start (events_of (turned t).made) (stopped (Superstep (turned t).machine.exchanges))
  turn-stopped going none set =
      last-goes points t.start (turned t).machine (events_of (turned t).made) (stopped (Superstep (turned t).machine.exchanges))
      (subst (IsLast points t.start (turned t).machine (events_of (turned t).made))
      (stop_at-superstep points (turned t).machine none set) (turn-last going))

  pub turn-going : IsGoing points t → (turned t).machine.outcome ≡ None → is_set points (Superstep (turned t).machine.exchanges) ≡ false
      → IsGoing points (turned t)
  turn-going going none unset =
      inr (last-going points (turned t) (more-some t.made entry.Turn)
      (subst (IsLast points t.start (turned t).machine (events_of (turned t).made))
      (stop_at-address points (turned t).machine none unset) (turn-last going)))

-- a turn that is enabled is made
pub turn-made : (t : Traced) → t.machine.outcome ≡ None → some_runs t.machine.nodes ≡ false → (made : Bool) (new : Traced)
    → made ≡ is_enabled t.machine Turn → new ≡ (if made then turned t else t) → new ≡ turned t
turn-made t open_yet stopped_all made new value is =
    let yes : made ≡ true = value ∙ rw (open_yet, stopped_all) refl in
    rw yes at is
