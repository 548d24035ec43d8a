-- The end of a machine, and that each order of events leads to it.
use Rattle.std.proofs.Common.{◌≡◌, ℕ, zero, suc, ◌+◌, ◌-◌, ◌*◌, ◌<◌, ◌≤◌, ◌⊎◌, inl, inr, Bool, true, false, ◌||◌, List, [], ◌∷◌, length}
use Rattle.std.proofs.Common.{map, All, Option, Some, None, refl, sym, ap, ◌∙◌, arith, add-one}
use Rattle.std.specs.Prelude.{if◌then◌else◌, is_some, IsSome, slice_get, sum_by}
use Rattle.std.specs.Fn.{iterate}
use Rattle.std.specs.List.{AllZip}
use Rattle.std.specs.Option.{option_map_or}
use Rattle.std.proofs.lemmas.Bool.{false≢true}
use Rattle.std.proofs.lemmas.List.Elements.{All-head, All-tail}
use Rattle.std.proofs.lemmas.List.Sums.{sum_by-cons, sum_by-le}
use Rattle.node_core.specs.Node.{NodeState, IsNode, is_running, local_step, phase, with_clock}
use Rattle.node_core.proofs.Steps.{iterate-add, iterate-fixed}
use Rattle.node_core.proofs.Sound.{IsLater-local_step, local_step-ticks}
use Rattle.bsp_exchange.specs.Exchange.{exchanged, exchanged_node}
use Rattle.machine_core.specs.declared.event.Event.{Event}
use Rattle.machine_core.specs.declared.event.Event.TheVariants.{Step, Turn}
use Rattle.machine_core.specs.declared.outcome.Outcome.{Outcome}
use Rattle.machine_core.specs.declared.settings.Settings.{Settings}
use Rattle.machine_core.specs.Clock.{closed_by, with_clocks}
use Rattle.machine_core.specs.Machine.{MachineState}
use Rattle.machine_core.specs.Turn.{outcome_of, recorded, decided, turned, with_phases, superstep, end_of}
use Rattle.machine_core.specs.Events.{runs, some_runs, stepped, is_enabled, made, event, after}
use Rattle.machine_core.specs.Sound.{IsNodeOf, IsUnderWay, IsSoundMachine}
use Rattle.machine_core.proofs.Phases.{phase-local_step, map-phase-stopped}
use Rattle.machine_core.proofs.Rows.{map-stepped, stepped-suc}
use Rattle.machine_core.proofs.Sound.{IsNode-each, length-nodes, enabled_open, turn_stopped, superstep-over, superstep-open}
use Rattle.machine_core.proofs.Sound.{IsSoundMachine-event, IsSoundMachine-supersteps}
use Rattle.machine_core.proofs.Steps.{after-nil, after-cons, event-enabled, event-disabled}

iterate-first : {X : Type 0} (f : X → X) (n : ℕ) (x : X) → iterate f (n + 1) x ≡ iterate f n (f x)
iterate-first f n x = rw (add-one n) refl

iterate-last : {X : Type 0} (f : X → X) (n : ℕ) (x : X) → iterate f (n + 1) x ≡ f (iterate f n x)
iterate-last f n x = iterate-add f n 1 x

module _ (m : MachineState) where
  -- a superstep of which a step was made already
  superstep-step : (rank : ℕ) → IsSoundMachine m → is_enabled m (Step rank) ≡ true → superstep (event m (Step rank)) ≡ superstep m
  superstep-step rank sound enabled =
      let open_yet = enabled_open m (Step rank) sound enabled in
      let phases = map-stepped m.input (phase m.input) IsNode (phase-local_step m.input) rank m.nodes (IsNode-each m sound) in
      ap superstep (event-enabled m (Step rank) enabled)
      ∙ superstep-open (made m (Step rank)) open_yet
      ∙ ap (λ (nodes : List NodeState). turned (record m { nodes = nodes })) phases
      ∙ sym (superstep-open m open_yet)

  -- a superstep of which only the turn is left
  superstep-turn : IsSoundMachine m → is_enabled m Turn ≡ true → superstep m ≡ event m Turn
  superstep-turn sound enabled =
      let phases = map-phase-stopped m.input m.nodes (turn_stopped m enabled) in
      superstep-open m (enabled_open m Turn sound enabled)
      ∙ ap (λ (nodes : List NodeState). turned (record m { nodes = nodes })) phases
      ∙ sym (event-enabled m Turn enabled)

  settings-turned : (turned m).settings ≡ m.settings
  unfolding turned
  settings-turned = by (outcome_of m.nodes)
    where
      by : (o : Option Outcome) → (decided o (recorded m)).settings ≡ m.settings
      by None = refl
      by (Some outcome) = refl

  -- a turn gives the outcome, or counts an exchange
  turned-cases : IsSome (turned m).outcome
      ⊎ (((turned m).exchanges ≡ m.exchanges + 1)
      × ((turned m).nodes ≡ with_clocks m.settings.clock (recorded m).ledger (exchanged m.nodes)))
  unfolding turned
  turned-cases = by (outcome_of m.nodes)
    where
      by : (o : Option Outcome)
          → IsSome (decided o (recorded m)).outcome
          ⊎ (((decided o (recorded m)).exchanges ≡ m.exchanges + 1)
          × ((decided o (recorded m)).nodes ≡ with_clocks m.settings.clock (recorded m).ledger (exchanged m.nodes)))
      by None = inr (refl, refl)
      by (Some outcome) = inl refl

settings-event : (m : MachineState) (e : Event) → (event m e).settings ≡ m.settings
settings-event m e = by (is_enabled m e) e refl
  where
    by : (enabled : Bool) (e : Event) → is_enabled m e ≡ enabled → (event m e).settings ≡ m.settings
    by false e is = ap (λ (x : MachineState). x.settings) (event-disabled m e is)
    by true (Step rank) is = ap (λ (x : MachineState). x.settings) (event-enabled m (Step rank) is)
    by true Turn is = ap (λ (x : MachineState). x.settings) (event-enabled m Turn is) ∙ settings-turned m

pub settings-superstep : (m : MachineState) → (superstep m).settings ≡ m.settings
settings-superstep m = by (is_some m.outcome) refl
  where
    by : (over : Bool) → is_some m.outcome ≡ over → (superstep m).settings ≡ m.settings
    by true is = ap (λ (x : MachineState). x.settings) (superstep-over m is)
    by false is = ap (λ (x : MachineState). x.settings) (superstep-open m is) ∙ settings-turned (with_phases m)

settings-supersteps : (k : ℕ) (m : MachineState) → (iterate superstep k m).settings ≡ m.settings
settings-supersteps zero m = refl
settings-supersteps (suc k) m = settings-supersteps k (superstep m) ∙ settings-superstep m

superstep-cases : (m : MachineState) → IsSome (superstep m).outcome ⊎ ((superstep m).exchanges ≡ m.exchanges + 1)
superstep-cases m = by (is_some m.outcome) refl
  where
    by : (over : Bool) → is_some m.outcome ≡ over → IsSome (superstep m).outcome ⊎ ((superstep m).exchanges ≡ m.exchanges + 1)
    by true is = inl (ap (λ (x : MachineState). is_some x.outcome) (superstep-over m is) ∙ is)
    by false is = rw (superstep-open m is) (elim (turned-cases (with_phases m)) [ inl over ↦ inl over | inr more ↦ inr more.0 ])

supersteps-cases : (k : ℕ) (m : MachineState)
    → IsSome (iterate superstep k m).outcome ⊎ (m.exchanges + k ≤ (iterate superstep k m).exchanges)
supersteps-cases zero m = inr (omega arith)
supersteps-cases (suc k) m = elim (superstep-cases m) [
  | inl over ↦
      inl (ap (λ (x : MachineState). is_some x.outcome)
      (iterate-fixed superstep k (superstep m) (superstep-over (superstep m) over)) ∙ over)
  | inr more ↦ elim (supersteps-cases k (superstep m)) [ inl over ↦ inl over | inr enough ↦ inr (omega arith) ]
]

-- each exchange cost a node a tick
exchanges_within : (s : Settings) (exchanges : ℕ) (nodes : List NodeState) (started : List ℕ) → 0 < length nodes → All (IsNodeOf s) nodes
    → AllZip (IsUnderWay exchanges) nodes started → exchanges ≤ s.limit
exchanges_within s exchanges [] started some of under = absurd (omega arith)
exchanges_within s exchanges (n ∷ rest) [] some of under = absurd under
exchanges_within s exchanges (n ∷ rest) (t ∷ started) some of under =
    let here = of 0 n (omega arith) in
    omega (arith, here.limit, here.sound.node.within, under.0.exchanged, under.0.kept)

pub exchanges-le-limit : (m : MachineState) → IsSoundMachine m → m.exchanges ≤ m.settings.limit
exchanges-le-limit m sound =
    let long = length-nodes m sound in
    let some = sound.settings.some in
    exchanges_within m.settings m.exchanges m.nodes m.started (omega arith) sound.nodes sound.ticks

pub length-ledger : (m : MachineState) → IsSoundMachine m → length m.ledger ≤ m.settings.limit + 1
length-ledger m sound = by (is_some m.outcome) sound.ledger
  where
    by : (over : Bool) → length m.ledger ≡ m.exchanges + (if over then 1 else 0) → length m.ledger ≤ m.settings.limit + 1
    by true rows = omega (arith, exchanges-le-limit m sound)
    by false rows = omega (arith, exchanges-le-limit m sound)

pub end_of-over : (m : MachineState) → IsSoundMachine m → IsSome (end_of m).outcome
unfolding end_of
end_of-over m sound =
    let last : MachineState = iterate superstep (m.settings.limit + 1) m in
    let within = exchanges-le-limit last (IsSoundMachine-supersteps (m.settings.limit + 1) m sound) in
    let same = ap (λ (s : Settings). s.limit) (settings-supersteps (m.settings.limit + 1) m) in
    elim (supersteps-cases (m.settings.limit + 1) m) [ inl over ↦ over | inr enough ↦ absurd (omega (arith, within, same, enough)) ]

-- a machine that has its outcome is at its end
pub end_of-there : (m : MachineState) → IsSome m.outcome → end_of m ≡ m
unfolding end_of
end_of-there m over = iterate-fixed superstep (m.settings.limit + 1) m (superstep-over m over)

end_of-same : (m n : MachineState) → n.settings ≡ m.settings → superstep n ≡ superstep m → end_of n ≡ end_of m
unfolding end_of
end_of-same m n settings same =
    ap (λ (s : Settings). iterate superstep (s.limit + 1) n) settings
    ∙ iterate-first superstep m.settings.limit n
    ∙ ap (iterate superstep m.settings.limit) same
    ∙ sym (iterate-first superstep m.settings.limit m)

end_of-first : (m : MachineState) → end_of (superstep m) ≡ superstep (end_of m)
unfolding end_of
end_of-first m =
    ap (λ (s : Settings). iterate superstep (s.limit + 1) (superstep m)) (settings-superstep m)
    ∙ sym (iterate-first superstep (m.settings.limit + 1) m)
    ∙ iterate-last superstep (m.settings.limit + 1) m

pub end_of-superstep : (m : MachineState) → IsSoundMachine m → end_of (superstep m) ≡ end_of m
end_of-superstep m sound = end_of-first m ∙ superstep-over (end_of m) (end_of-over m sound)

pub end_of-event : (m : MachineState) (e : Event) → IsSoundMachine m → end_of (event m e) ≡ end_of m
end_of-event m e sound = by (is_enabled m e) e refl
  where
    by : (enabled : Bool) (e : Event) → is_enabled m e ≡ enabled → end_of (event m e) ≡ end_of m
    by false e is = ap end_of (event-disabled m e is)
    by true (Step rank) is = end_of-same m (event m (Step rank)) (settings-event m (Step rank)) (superstep-step m rank sound is)
    by true Turn is = ap end_of (sym (superstep-turn m sound is)) ∙ end_of-superstep m sound

pub end_of-after : (m : MachineState) (events : List Event) → IsSoundMachine m → end_of (after m events) ≡ end_of m
end_of-after m [] sound = ap end_of (after-nil m)
end_of-after m (e ∷ events) sound =
    ap end_of (after-cons m e events) ∙ end_of-after (event m e) events (IsSoundMachine-event m e sound) ∙ end_of-event m e sound

-- the ticks that nodes have left
abbrev ticks_left : List NodeState → ℕ
ticks_left nodes = sum_by (λ (n : NodeState). n.limit - n.ticks) nodes

ticks_left-cons : (n : NodeState) (rest : List NodeState) → ticks_left (n ∷ rest) ≡ (n.limit - n.ticks) + ticks_left rest
ticks_left-cons n rest = sum_by-cons (λ (x : NodeState). x.limit - x.ticks) n rest

ticks_left-begun : (closed : Option ℕ) (all nodes : List NodeState)
    → ticks_left (map (with_clock closed) (map (exchanged_node all) nodes)) ≡ ticks_left nodes
ticks_left-begun closed all [] = refl
ticks_left-begun closed all (n ∷ rest) =
    ticks_left-cons (with_clock closed (exchanged_node all n)) (map (with_clock closed) (map (exchanged_node all) rest))
    ∙ ap (λ k. (n.limit - n.ticks) + k) (ticks_left-begun closed all rest)
    ∙ sym (ticks_left-cons n rest)

-- a step takes one of them
ticks_left-step : (input : List ℕ) (n : NodeState) → IsNode n → is_running n.state ≡ true
    → ((local_step input n).limit - (local_step input n).ticks) + 1 ≡ n.limit - n.ticks
ticks_left-step input n sound running =
    let ticks = local_step-ticks input n running in
    let limit = (IsLater-local_step input n).limit in
    let before = sound.has_ticks_left running in
    rw (ticks, limit) (omega arith)

ticks_left-stepped : (input : List ℕ) (rank : ℕ) (nodes : List NodeState) → All IsNode nodes
    → option_map_or runs (slice_get nodes rank) false ≡ true → ticks_left (stepped input rank nodes) + 1 ≡ ticks_left nodes
ticks_left-stepped input rank [] sound running = absurd (false≢true running)
ticks_left-stepped input zero (n ∷ rest) sound running =
    let here = ticks_left-step input n (All-head IsNode n rest sound) running in
    let before = ticks_left-cons n rest in
    let now = ticks_left-cons (local_step input n) rest in
    omega (arith, here, before, now)
ticks_left-stepped input (suc rank) (n ∷ rest) sound running =
    let there = ticks_left-stepped input rank rest (All-tail IsNode n rest sound) running in
    let before = ticks_left-cons n rest in
    let now = ticks_left-cons n (stepped input rank rest) in
    rw (stepped-suc input rank n rest) (omega (arith, there, before, now))

running_rank : (nodes : List NodeState) → some_runs nodes ≡ true → (rank : ℕ) × (option_map_or runs (slice_get nodes rank) false ≡ true)
running_rank [] some = absurd (false≢true some)
running_rank (n ∷ rest) some = by (is_running n.state) refl (λ there. running_rank rest there) some
  where
    by : (r : Bool) → is_running n.state ≡ r
        → (some_runs rest ≡ true → (rank : ℕ) × (option_map_or runs (slice_get rest rank) false ≡ true)) → r || some_runs rest ≡ true
        → (rank : ℕ) × (option_map_or runs (slice_get (n ∷ rest) rank) false ≡ true)
    by true is there some = (0, is)
    by false is there some = let found = there some in (suc found.0, found.1)

-- the steps and turns that a machine has left
abbrev left : MachineState → ℕ
left m = ticks_left m.nodes + (m.settings.limit + 1 - m.exchanges)

-- some events, no more than there are left, finish a machine
abbrev CanFinish : ℕ → MachineState → Type 0
CanFinish most m = (events : List Event) × (length events ≤ most) × IsSome (after m events).outcome

CanFinish-event : (most : ℕ) (m : MachineState) (e : Event) → CanFinish most (event m e) → CanFinish (suc most) m
CanFinish-event most m e can = (e ∷ can.0, omega (arith, can.1), rw (after-cons m e can.0) can.2)

-- a machine without an outcome has an event that finishes it, or after which less is left
progress : (m : MachineState) → IsSoundMachine m → is_some m.outcome ≡ false
    → (e : Event) × (IsSome (event m e).outcome ⊎ (left (event m e) + 1 ≤ left m))
progress m sound open_yet = by (some_runs m.nodes) refl
  where
    by_turn : is_enabled m Turn ≡ true → IsSome (event m Turn).outcome ⊎ (left (event m Turn) + 1 ≤ left m)
    by_turn enabled = rw (event-enabled m Turn enabled) (elim (turned-cases m) [
      | inl over ↦ inl over
      | inr more ↦
          let limit = ap (λ (s : Settings). s.limit) (settings-turned m) in
          let within = exchanges-le-limit m sound in
          let ticks = ticks_left-begun (closed_by m.settings.clock (recorded m).ledger) m.nodes m.nodes in
          inr (rw (more.0, more.1, limit, ticks) (omega (arith, within)))
    ])

    by : (some : Bool) → some_runs m.nodes ≡ some → (e : Event) × (IsSome (event m e).outcome ⊎ (left (event m e) + 1 ≤ left m))
    by true is =
        let found = running_rank m.nodes is in
        let ticks = ticks_left-stepped m.input found.0 m.nodes (IsNode-each m sound) found.1 in
        (Step found.0, inr (rw (event-enabled m (Step found.0) found.1) (omega (arith, ticks))))
    by false is = (Turn, by_turn (rw (open_yet, is) refl))

finish : (over : Bool) (most : ℕ) (m : MachineState) → is_some m.outcome ≡ over → IsSoundMachine m → left m ≤ most → CanFinish most m
finish true most m is sound enough = ([], omega arith, rw (after-nil m) is)
finish false zero m is sound enough = absurd (omega (arith, exchanges-le-limit m sound))
finish false (suc most) m is sound enough =
    let next = progress m sound is in
    let e = next.0 in
    elim next.1 [
      | inl over ↦ CanFinish-event most m e ([], omega arith, rw (after-nil (event m e)) over)
      | inr less ↦
          CanFinish-event most m e
          (finish (is_some (event m e).outcome) most (event m e) refl (IsSoundMachine-event m e sound) (omega (arith, less, enough)))
    ]

pub finish-all : (m : MachineState) → IsSoundMachine m → CanFinish (m.settings.nodes * m.settings.limit + m.settings.limit + 1) m
finish-all m sound =
    let long = length-nodes m sound in
    let each : All (λ (n : NodeState). n.limit - n.ticks ≤ m.settings.limit) m.nodes =
    λ k d within. let limit = (sound.nodes k d within).limit in omega arith in
    let ticks = rw long at (sum_by-le (λ (n : NodeState). n.limit - n.ticks) m.settings.limit m.nodes each) in
    finish (is_some m.outcome) (m.settings.nodes * m.settings.limit + m.settings.limit + 1) m refl sound (omega (arith, ticks))
