-- How `Go` comes along: steps of the lowest rank that runs, and turns.
use Rattle.std.proofs.Common.{◌≡◌, ℕ, zero, suc, ◌+◌, ◌<◌, ◌≤◌, true, List, [], ◌∷◌, ◌++◌, replicate, Option, Some, None, option_map, sym}
use Rattle.std.proofs.Common.{ap, ◌∙◌, arith, append-nil}
use Rattle.std.proofs.lemmas.List.{append_assoc}
use Rattle.machine_core.specs.declared.event.Event.{Event}
use Rattle.machine_core.specs.declared.event.Event.TheVariants.{Step}
use Rattle.machine_core.specs.Machine.{MachineState}
use Rattle.machine_core.specs.Events.{is_enabled, event}
use Rattle.machine_core.specs.Sound.{IsSoundMachine}
use Rattle.machine_core.specs.Walk.{next_event, walk, walked}
use Rattle.machine_core.proofs.Sound.{IsSoundMachine-event}
use Rattle.machine_core.proofs.Steps.{event-step}
use Rattle.machine_core.proofs.Walks.{walk-zero, walked-zero, next_event-step, enabled-other}
use Rattle.bsp_debug.specs.declared.point.Point.{Point}
use Rattle.bsp_debug.specs.Going.{HaveStoppedBelow}
use Rattle.bsp_debug.specs.Reply.{Answer, stopped}
use Rattle.bsp_debug.specs.Stops.{stop_at, stop_after, Passes, IsOnTheWay}
use Rattle.bsp_debug.specs.Trace.{after_steps, point_at}
use Rattle.bsp_debug.proofs.Counts.{after_steps-zero, after_steps-suc}
use Rattle.bsp_debug.proofs.Stops.{Passes-none, Passes-next, walk-next, walked-next, stop-next, address_stop-at, stop_at-step}

-- a machine after the first events of a walk, which lead to no stop
pub record IsWay (points : List Point) (start m : MachineState) (events : List Event) : Type 0 where
  pub count : ℕ
  pub passes : Passes points count start
  pub machine : m ≡ walked count start
  pub made : events ≡ walk count start

pub IsWay-start : (points : List Point) (m : MachineState) → IsWay points m m []
IsWay-start points m = record { count = 0; passes = Passes-none points m; machine = sym (walked-zero m); made = sym (walk-zero m) }

-- one event more, whatever stop it leads to
pub record IsLast (points : List Point) (start m : MachineState) (events : List Event) (why : Option Answer) : Type 0 where
  pub before : ℕ
  pub passes : Passes points before start
  pub stop : stop_after points before start ≡ why
  pub machine : m ≡ walked (before + 1) start
  pub made : events ≡ walk (before + 1) start

module _ (points : List Point) (start : MachineState) where
  pub IsWay-last : (m : MachineState) (events : List Event) (e : Event) → IsWay points start m events → next_event m ≡ Some e
      → IsLast points start (event m e) (events ++ e ∷ []) (stop_at points e (event m e))
  IsWay-last m events e way next =
      let here : next_event (walked way.count start) ≡ Some e = ap next_event (sym way.machine) ∙ next in
      record {
        before = way.count;
        passes = way.passes;
        stop = stop-next way.count start e here points ∙ ap (λ (x : MachineState). stop_at points e (event x e)) (sym way.machine);
        machine = ap (λ (x : MachineState). event x e) way.machine ∙ sym (walked-next way.count start e here);
        made = ap (λ xs. xs ++ e ∷ []) way.made ∙ sym (walk-next way.count start e here);
      }

  pub IsLast-way : (m : MachineState) (events : List Event) → IsLast points start m events None → IsWay points start m events
  IsLast-way m events last = record {
    count = last.before + 1;
    passes = Passes-next points last.before start last.passes last.stop;
    machine = last.machine;
    made = last.made;
  }

  pub IsWay-part : (m : MachineState) (events : List Event) → IsWay points start m events → IsOnTheWay points start events
  IsWay-part m events way = record { count = way.count; passes = way.passes; made = way.made }

  module _ (rank : ℕ) where
    outcome-step : (m : MachineState) → (event m (Step rank)).outcome ≡ m.outcome
    outcome-step m = ap (λ (x : MachineState). x.outcome) (event-step m rank)

    below-step : (m : MachineState) → HaveStoppedBelow rank m → HaveStoppedBelow rank (event m (Step rank))
    below-step m below j within = enabled-other m rank j (λ same. omega (arith, same, within)) ∙ below j within

    -- a step of the lowest rank that runs
    pub IsWay-step : (m : MachineState) (events : List Event) → IsSoundMachine m → m.outcome ≡ None → HaveStoppedBelow rank m
        → is_enabled m (Step rank) ≡ true → IsWay points start m events
        → IsLast points start (event m (Step rank)) (events ++ Step rank ∷ []) (stop_at points (Step rank) (event m (Step rank)))
    IsWay-step m events sound open_yet below enabled way = IsWay-last m events (Step rank) way (next_event-step m rank sound enabled below)

    -- some steps of it, none of which leads to a point, and before each of which and after the last it runs
    pub IsWay-steps : (count : ℕ) (m : MachineState) (events : List Event)
        → IsSoundMachine m → m.outcome ≡ None → HaveStoppedBelow rank m
        → ((j : ℕ) → j ≤ count → is_enabled (after_steps m rank j) (Step rank) ≡ true)
        → ((j : ℕ) → 0 < j → j ≤ count → point_at points (after_steps m rank j) rank ≡ None)
        → IsWay points start m events
        → IsWay points start (after_steps m rank count) (events ++ replicate count (Step rank))
    IsWay-steps zero m events sound open_yet below enabled passes way = rw (after_steps-zero m rank, append-nil events) way
    IsWay-steps (suc count) m events sound open_yet below enabled passes way =
        let next = event m (Step rank) in
        let first = ap (λ (x : MachineState). is_enabled x (Step rank)) (sym (after_steps-zero m rank)) ∙ enabled 0 (omega arith) in
        let one : after_steps m rank 1 ≡ next = after_steps-suc m rank 0 ∙ after_steps-zero next rank in
        let runs_on = ap (λ (x : MachineState). is_enabled x (Step rank)) (sym one) ∙ enabled 1 (omega arith) in
        let free = ap (λ (x : MachineState). point_at points x rank) (sym one) ∙ passes 1 (omega arith) (omega arith) in
        let sound' = IsSoundMachine-event m (Step rank) sound in
        let open' = outcome-step m ∙ open_yet in
        let below' = below-step m below in
        let no_stop : stop_at points (Step rank) next ≡ None =
        stop_at-step points rank next open' ∙ address_stop-at points next rank sound' below' runs_on ∙ ap (option_map stopped) free in
        let last = IsWay-step m events sound open_yet below first way in
        let way' = IsLast-way next (events ++ Step rank ∷ []) (rw no_stop at last) in
        let rest = IsWay-steps count next (events ++ Step rank ∷ []) sound' open' below'
        (λ j within. ap (λ (x : MachineState). is_enabled x (Step rank)) (sym (after_steps-suc m rank j))
        ∙ enabled (suc j) (omega (arith, within)))
        (λ j some within. ap (λ (x : MachineState). point_at points x rank) (sym (after_steps-suc m rank j))
        ∙ passes (suc j) (omega arith) (omega (arith, within)))
        way' in
        rw (after_steps-suc m rank count, ← append_assoc events (Step rank ∷ []) (replicate count (Step rank))) rest
