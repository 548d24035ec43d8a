-- A command that was refused memory, given again.
use Rattle.std.proofs.Common.{◌≡◌, ℕ, zero, suc, ◌+◌, ◌-◌, ◌<◌, ◌≤◌, inl, inr, Bool, true, false, List, [], ◌∷◌, ◌++◌, length, replicate}
use Rattle.std.proofs.Common.{Option, Some, None, refl, sym, ap, ap₂, ◌∙◌, subst, arith}
use Rattle.std.specs.Option.{option_and_then}
use Rattle.std.proofs.lemmas.Bool.{cases_order}
use Rattle.std.proofs.lemmas.List.{length-replicate}
use Rattle.machine_core.specs.declared.event.Event.{Event}
use Rattle.machine_core.specs.declared.event.Event.TheVariants as event
use Rattle.machine_core.specs.Machine.{MachineState}
use Rattle.machine_core.specs.Events.{is_enabled, after}
use Rattle.machine_core.specs.Events.{event as event_of}
use Rattle.machine_core.specs.Sound.{IsSoundMachine}
use Rattle.machine_core.specs.Walk.{next_event, walk, walked}
use Rattle.machine_core.proofs.Resume.{phases-after}
use Rattle.machine_core.proofs.Steps.{after-nil}
use Rattle.machine_core.proofs.Walks.{walked-add}
use Rattle.bsp_debug.specs.declared.command.Command.{Command}
use Rattle.bsp_debug.specs.declared.command.Command.TheVariants.{Step, Run, Return, Phase, Turn, Go, Regs, Fregs, Bytes, Queue, Costs}
use Rattle.bsp_debug.specs.declared.point.Point.{Point}
use Rattle.bsp_debug.specs.Debugger.{steps_at, IsWithinPhases, MakesPhases, Makes, MakesPart, rest_of}
use Rattle.bsp_debug.specs.Reply.{Answer, moved}
use Rattle.bsp_debug.specs.Returns.{has_arrived, HasReturned, IsReturning}
use Rattle.bsp_debug.specs.Stops.{stop_at, stop_after, Goes, IsOnTheWay}
use Rattle.bsp_debug.specs.Trace.{after_steps, point_at, RunsToPoint, RunsOnTo}
use Rattle.bsp_debug.proofs.Counts.{after_steps-zero, after_steps-suc, steps_at-zero, steps_at-disabled, steps_at-suc}
use Rattle.bsp_debug.proofs.Entries.{after-append}
use Rattle.bsp_debug.proofs.Phases.{MakeNoTurn-append}
use Rattle.bsp_debug.proofs.Stops.{walk-add}

replicate-add : {X : Type 0} (j k : ℕ) (x : X) → replicate j x ++ replicate k x ≡ replicate (j + k) x
replicate-add zero k x = ap (λ n. replicate n x) (let same : k ≡ 0 + k = omega arith in same)
replicate-add (suc j) k x =
    ap (λ xs. x ∷ xs) (replicate-add j k x) ∙ ap (λ n. replicate n x) (let same : suc (j + k) ≡ suc j + k = omega arith in same)

-- the steps that are left of n
steps_at-rest : (k n : ℕ) (m : MachineState) (rank : ℕ) → k ≤ steps_at m rank n
    → k + steps_at (after_steps m rank k) rank (n - k) ≡ steps_at m rank n
steps_at-rest zero n m rank most =
    ap₂ (λ (x : MachineState) (j : ℕ). 0 + steps_at x rank j) (after_steps-zero m rank) (let same : n - 0 ≡ n = omega arith in same)
    ∙ omega arith
steps_at-rest (suc k) zero m rank most = absurd (omega (arith, most, steps_at-zero m rank))
steps_at-rest (suc k) (suc n) m rank most = by (λ x most'. steps_at-rest k n x rank most') (is_enabled m (event.Step rank)) refl
  where
    by : ((x : MachineState) → k ≤ steps_at x rank n → k + steps_at (after_steps x rank k) rank (n - k) ≡ steps_at x rank n)
        → (enabled : Bool) → is_enabled m (event.Step rank) ≡ enabled
        → suc k + steps_at (after_steps m rank (suc k)) rank (suc n - suc k) ≡ steps_at m rank (suc n)
    by fewer false is = absurd (omega (arith, most, steps_at-disabled m rank (suc n) is))
    by fewer true is =
        let next = event_of m (event.Step rank) in
        let one = steps_at-suc m rank n is in
        let rest = fewer next (omega (arith, most, one)) in
        let left : suc n - suc k ≡ n - k = omega arith in
        ap₂ (λ (x : MachineState) (j : ℕ). suc k + steps_at x rank j) (after_steps-suc m rank k) left ∙ omega (arith, rest, one)

-- so many steps and then so many more
after_steps-add : (j k : ℕ) (m : MachineState) (rank : ℕ) → after_steps (after_steps m rank j) rank k ≡ after_steps m rank (j + k)
after_steps-add j k m rank =
    sym (after-append m (replicate j (event.Step rank)) (replicate k (event.Step rank)))
    ∙ ap (after m) (replicate-add j k (event.Step rank))

-- a run that goes on up to a point
run-again : (points : List Point) (m : MachineState) (rank n j k : ℕ) → RunsOnTo points m rank n j
    → RunsToPoint points (after_steps m rank j) rank (n - j) k → RunsToPoint points m rank n (j + k)
run-again points m rank n j k part rest = record {
  on = record {
    runs = λ i below. elim (cases_order i j) [
      | inl same ↦ ap enabled_at same ∙ part.runs
      | inr other ↦ elim other [
        | inl before ↦ part.on.runs i before
        | inr past ↦
            ap (λ (x : MachineState). is_enabled x (event.Step rank)) (there i past) ∙ rest.on.runs (i - j) (omega (arith, below, past))
      ]
    ];
    passes = λ i some below. elim (cases_order i j) [
      | inl same ↦ ap point_there same ∙ part.passes (omega (arith, some, same))
      | inr other ↦ elim other [
        | inl before ↦ part.on.passes i some before
        | inr past ↦
            ap (λ (x : MachineState). point_at points x rank) (there i past)
            ∙ rest.on.passes (i - j) (omega (arith, past)) (omega (arith, below, past))
      ]
    ];
  };
  few = omega (arith, part.few, rest.few);
  some = λ enabled may. elim (cases_order 0 j) [
    | inl none ↦ omega (arith, rest.some part.runs (omega (arith, none, may)))
    | inr other ↦ elim other [
      | inl some ↦ omega (arith, some)
      | inr below ↦ absurd (omega (arith, below))
    ]
  ];
  arrived =
      λ enabled short none. rest.arrived (ap (λ (x : MachineState). is_enabled x (event.Step rank)) (after_steps-add j k m rank) ∙ enabled)
      (omega (arith, short)) (ap (λ (x : MachineState). point_at points x rank) (after_steps-add j k m rank) ∙ none);
} where
  enabled_at : ℕ → Bool
  enabled_at i = is_enabled (after_steps m rank i) (event.Step rank)

  point_there : ℕ → Option Point
  point_there i = point_at points (after_steps m rank i) rank

  there : (i : ℕ) → j < i → after_steps m rank i ≡ after_steps (after_steps m rank j) rank (i - j)
  there i past =
      let split : i ≡ j + (i - j) = omega (arith, past) in
      ap (λ n. after_steps m rank n) split ∙ sym (after_steps-add j (i - j) m rank)

-- a run that goes on to where a function returns
return-again : (points : List Point) (m : MachineState) (rank addr sp j k : ℕ) → IsReturning points m rank addr sp j
    → HasReturned points (after_steps m rank j) rank addr sp k → HasReturned points m rank addr sp (j + k)
return-again points m rank addr sp j k part rest = record {
  on = record {
    runs = λ i below. elim (cases_order i j) [
      | inl same ↦ ap (enabled_at) same ∙ part.runs
      | inr other ↦ elim other [
        | inl before ↦ part.on.runs i before
        | inr past ↦ later-runs i (i - j) (omega (arith, past)) (omega (arith, below, past))
      ]
    ];
    passes = λ i some below. elim (cases_order i j) [
      | inl same ↦ ap arrived_at same ∙ part.passes (omega (arith, some, same))
      | inr other ↦ elim other [
        | inl before ↦ part.on.passes i some before
        | inr past ↦ later-passes i (i - j) (omega (arith, past)) (omega (arith, past)) (omega (arith, below, past))
      ]
    ];
  };
  some = λ enabled. omega (arith, rest.some part.runs);
  arrived = λ enabled. ap (has_arrived points rank addr sp) (sym (after_steps-add j k m rank))
      ∙ rest.arrived (ap (λ (x : MachineState). is_enabled x (event.Step rank)) (after_steps-add j k m rank) ∙ enabled);
} where
  enabled_at : ℕ → Bool
  enabled_at i = is_enabled (after_steps m rank i) (event.Step rank)

  arrived_at : ℕ → Bool
  arrived_at i = has_arrived points rank addr sp (after_steps m rank i)

  there : (i later : ℕ) → i ≡ j + later → after_steps m rank i ≡ after_steps (after_steps m rank j) rank later
  there i later is = ap (λ n. after_steps m rank n) is ∙ sym (after_steps-add j later m rank)

  later-runs : (i later : ℕ) → i ≡ j + later → later < k → is_enabled (after_steps m rank i) (event.Step rank) ≡ true
  later-runs i later is below = ap (λ (x : MachineState). is_enabled x (event.Step rank)) (there i later is) ∙ rest.on.runs later below

  later-passes : (i later : ℕ) → i ≡ j + later → 0 < later → later < k → has_arrived points rank addr sp (after_steps m rank i) ≡ false
  later-passes i later is some below = ap (has_arrived points rank addr sp) (there i later is) ∙ rest.on.passes later some below

-- a stop that is met k events later
stop-later : (points : List Point) (j k : ℕ) (m : MachineState) → stop_after points k (walked j m) ≡ stop_after points (j + k) m
stop-later points j k m =
    ap (λ (x : MachineState). option_and_then (λ e. stop_at points e (event_of x e)) (next_event x)) (walked-add j k m)

module _ (points : List Point) (m : MachineState) (part rest : List Event) where
  go-again : (stop : Answer) → IsOnTheWay points m part → Goes points (after m part) rest stop → Goes points m (part ++ rest) stop
  go-again stop way goes =
      let there : after m part ≡ walked way.count m = ap (after m) way.made in
      record {
        before = way.count + goes.before;
        passes = λ j below. elim (cases_order j way.count) [
          | inl same ↦ later j 0 (omega (arith, same)) (omega (arith, below, same))
          | inr other ↦ elim other [
            | inl earlier ↦ way.passes j earlier
            | inr past ↦ later j (j - way.count) (omega (arith, past)) (omega (arith, below, past))
          ]
        ];
        stops = sym (stop-later points way.count goes.before m) ∙ ap (stop_after points goes.before) (sym there) ∙ goes.stops;
        made =
            ap₂ (λ xs ys. xs ++ ys) way.made (goes.made ∙ ap (walk (goes.before + 1)) there) ∙ sym (walk-add way.count (goes.before + 1) m)
            ∙ ap (λ n. walk n m) (let same : way.count + (goes.before + 1) ≡ way.count + goes.before + 1 = omega arith in same);
      }
    where
      later : (j k : ℕ) → j ≡ way.count + k → k < goes.before → stop_after points j m ≡ None
      later j k is below =
          ap (λ n. stop_after points n m) is ∙ sym (stop-later points way.count k m)
          ∙ ap (stop_after points k) (sym (ap (after m) way.made)) ∙ goes.passes k below

  phases-again : IsSoundMachine m → IsWithinPhases m part → MakesPhases (after m part) rest → MakesPhases m (part ++ rest)
  phases-again sound way whole =
      let there : after m part ≡ walked way.count m = ap (after m) way.made in
      record {
        first = record {
          count = way.count + whole.first.count;
          made =
              ap₂ (λ xs ys. xs ++ ys) way.made (whole.first.made ∙ ap (walk whole.first.count) there)
              ∙ sym (walk-add way.count whole.first.count m);
          no_turn = MakeNoTurn-append part rest m way.no_turn whole.first.no_turn;
        };
        whole = after-append m part rest ∙ whole.whole ∙ phases-after m part sound way.no_turn;
      }

-- where nothing was made, all is left
from-nothing : (points : List Point) (m : MachineState) (c : Command) (part rest : List Event) (reply : Answer) → part ≡ []
    → Makes points (after m part) c rest reply → Makes points m c (part ++ rest) reply
from-nothing points m c part rest reply none made =
    subst (λ xs. Makes points m c (xs ++ rest) reply) (sym none)
    (subst (λ (x : MachineState). Makes points x c rest reply) (ap (after m) none ∙ after-nil m) made)

pub again : (points : List Point) (m : MachineState) (c : Command) (part rest : List Event) (reply : Answer)
    → IsSoundMachine m → MakesPart points m c part → Makes points (after m part) (rest_of c part) rest reply
    → (whole : Answer) × Makes points m c (part ++ rest) whole
again points m (Step rank n) part rest reply sound some made =
    let long : length part ≡ some.0 = ap length some.2 ∙ length-replicate some.0 (event.Step rank) in
    let more : rest ≡ replicate (steps_at (after_steps m rank some.0) rank (n - some.0)) (event.Step rank) =
    made.0 ∙ ap₂ (λ (x : MachineState) (k : ℕ). replicate (steps_at x rank (n - k)) (event.Step rank)) (ap (after m) some.2) long in
    let sum = steps_at-rest some.0 n m rank some.1 in (
      moved (length (part ++ rest)),
      (
        ap₂ (λ xs ys. xs ++ ys) some.2 more ∙ replicate-add some.0 (steps_at (after_steps m rank some.0) rank (n - some.0))
            (event.Step rank) ∙ ap (λ k. replicate k (event.Step rank)) sum,
        refl,
      ),
    )
again points m (Run rank n) part rest reply sound (j, is, part_way) (((k, rest_is, ran), told)) =
    let there : after m part ≡ after_steps m rank j = ap (after m) is in
    let long : length part ≡ j = ap length is ∙ length-replicate j (event.Step rank) in
    let whole = run-again points m rank n j k part_way
    (subst (λ (l : ℕ). RunsToPoint points (after_steps m rank j) rank (n - l) k) long
    (subst (λ (x : MachineState). RunsToPoint points x rank (n - length part) k) there ran)) in
    (moved (length (part ++ rest)), (((j + k, ap₂ (λ xs ys. xs ++ ys) is rest_is ∙ replicate-add j k (event.Step rank), whole), refl)))
again points m (Return rank addr sp) part rest reply sound (j, is, part_way) (((k, rest_is, returned), told)) =
    let there : after m part ≡ after_steps m rank j = ap (after m) is in
    let whole = return-again points m rank addr sp j k part_way
    (subst (λ (x : MachineState). HasReturned points x rank addr sp k) there returned) in
    (moved (length (part ++ rest)), (((j + k, ap₂ (λ xs ys. xs ++ ys) is rest_is ∙ replicate-add j k (event.Step rank), whole), refl)))
again points m Phase part rest reply sound some made =
    (moved (length (part ++ rest)), (phases-again points m part rest sound some made.0, refl))
again points m Turn part rest reply sound some made = (reply, from-nothing points m Turn part rest reply some.0 made)
again points m Go part rest reply sound some made = (reply, go-again points m part rest reply some made)
again points m (Regs rank) part rest reply sound some made = absurd some
again points m (Fregs rank) part rest reply sound some made = absurd some
again points m (Bytes rank addr len) part rest reply sound some made =
    (reply, from-nothing points m (Bytes rank addr len) part rest reply some made)
again points m (Queue rank) part rest reply sound some made = (reply, from-nothing points m (Queue rank) part rest reply some made)
again points m Costs part rest reply sound some made = (reply, from-nothing points m Costs part rest reply some made)

-- the first stop is one
pub same-before : (points : List Point) (m : MachineState) (one other : List Event) (stop end : Answer) (goes : Goes points m one stop)
    (goes' : Goes points m other end) → goes.before ≡ goes'.before
same-before points m one other stop end goes goes' = elim (cases_order goes.before goes'.before) [
  | inl same ↦ same
  | inr apart ↦ elim apart [
    | inl below ↦ absurd (let none : None ≡ Some stop = sym (goes'.passes goes.before below) ∙ goes.stops in cc)
    | inr past ↦ absurd (let none : None ≡ Some end = sym (goes.passes goes'.before past) ∙ goes'.stops in cc)
  ]
]
