-- What events keep true of a machine.
use Rattle.std.proofs.Common.{◌≡◌, ℕ, zero, suc, ◌+◌, Bool, true, false, not, ◌&&◌, ◌||◌, List, [], ◌∷◌, length, map, All, Option, Some}
use Rattle.std.proofs.Common.{None, refl, sym, ap, ◌∙◌, arith, get_or, add-zero}
use Rattle.std.specs.Prelude.{◌==◌, is_some, option_map, if◌then◌else◌}
use Rattle.std.specs.Fn.{iterate}
use Rattle.std.proofs.lemmas.List.{length-map, length_push}
use Rattle.std.proofs.lemmas.List.FromFn.{length-range_with_len}
use Rattle.std.specs.List.{AllZip, range_with_len}
use Rattle.std.proofs.lemmas.Bool.{false≢true}
use Rattle.std.proofs.lemmas.List.Elements.{All-map, All-weaker, All-cons}
use Rattle.node_core.specs.declared.state.State.{State}
use Rattle.node_core.specs.declared.state.State.TheVariants.{Running, Synced, Ended, Aborted, Exhausted, Faulted}
use Rattle.node_core.specs.Node.{NodeState, IsNode, IsSoundNode, is_running, state_at, local_step}
use Rattle.node_core.proofs.Steps.{local_step-stopped}
use Rattle.node_core.proofs.Sound.{IsSoundNode-local_step, IsLater-local_step, local_step-ticks}
use Rattle.bsp_exchange.specs.Exchange.{AreAtSync, exchanged, exchanged_node}
use Rattle.bsp_exchange.specs.Faults.{exchange_fault}
use Rattle.bsp_exchange.specs.Landings.{landings_at}
use Rattle.machine_core.specs.declared.event.Event.{Event}
use Rattle.machine_core.specs.declared.event.Event.TheVariants.{Step, Turn}
use Rattle.machine_core.specs.declared.outcome.Outcome.{Outcome}
use Rattle.machine_core.specs.declared.outcome.Outcome.TheVariants.{Refused}
use Rattle.machine_core.specs.declared.settings.Prices.{Prices}
use Rattle.machine_core.specs.declared.settings.Settings.{Settings}
use Rattle.cost_ledger.specs.declared.CostRow.{CostRow}
use Rattle.machine_core.specs.Clock.{HasClock, closed_by, with_clocks}
use Rattle.machine_core.specs.Machine.{MachineState}
use Rattle.machine_core.specs.Turn.{was_stopped, has_ended, is_waiting, lowest, stopped_by, outcome_of, outcome_unstopped, cost_row}
use Rattle.machine_core.specs.Turn.{recorded, decided, turned, with_phases, superstep}
use Rattle.machine_core.specs.Events.{some_runs, is_enabled, made, event, after}
use Rattle.machine_core.specs.Sound.{IsNodeOf, IsUnderWay, IsSoundMachine}
use Rattle.machine_core.proofs.Clocks.{AllZip-clocks, All-clocks, IsNodeOf-clock, HasClock-local_step, map-begun}
use Rattle.machine_core.proofs.Exchanged.{IsSoundNode-exchanged, areas-exchanged, length-memory_after}
use Rattle.machine_core.proofs.Options.{cond_none, option_or_none, option_map_none}
use Rattle.machine_core.proofs.Phases.{All-phases, AllZip-phases, map-phases, some_runs-phases, some_runs-at}
use Rattle.machine_core.proofs.Rows.{map-stepped, All-stepped, AllZip-stepped}
use Rattle.machine_core.proofs.Starts.{few_in_range}
use Rattle.machine_core.proofs.Steps.{after-nil, after-cons, event-enabled, event-disabled}

-- a state in which a node neither runs, nor was stopped, nor ended
Synced-from : (s : State) → is_running s ≡ false → was_stopped s ≡ false → has_ended s ≡ false → s ≡ Synced
Synced-from Running stopped on open_yet = absurd cc
Synced-from Synced stopped on open_yet = refl
Synced-from Ended stopped on open_yet = absurd cc
Synced-from Aborted stopped on open_yet = absurd cc
Synced-from Exhausted stopped on open_yet = absurd cc
Synced-from (Faulted _) stopped on open_yet = absurd cc

-- no node waits at the start of a superstep
not_synced : (ticks limit : ℕ) → state_at Running ticks limit ≡ Synced → ⊥
not_synced ticks limit waits = by (ticks == limit) waits
  where
    by : (spent : Bool) → (if spent then Exhausted else Running) ≡ Synced → ⊥
    by true e = cc
    by false e = cc

or_false : (a b : Bool) → a || b ≡ false → (a ≡ false) × (b ≡ false)
or_false true b none = absurd cc
or_false false b none = (refl, none)

unstopped_none : (ended waiting : Option NodeState) (nodes : List NodeState) → outcome_unstopped ended waiting nodes ≡ None
    → (ended ≡ None) × (exchange_fault nodes ≡ None)
unstopped_none None waiting nodes none = (refl, option_map_none Refused (exchange_fault nodes) none)
unstopped_none (Some e) None nodes none = absurd cc
unstopped_none (Some e) (Some w) nodes none = absurd cc

-- nodes between which the exchange is made
record CanExchange (nodes : List NodeState) : Type 0 where
  pub waiting : All (λ n. n.state ≡ Synced) nodes
  pub fault : exchange_fault nodes ≡ None

all_wait : (nodes : List NodeState) → some_runs nodes ≡ false → lowest was_stopped nodes ≡ None → lowest has_ended nodes ≡ None
    → All (λ n. n.state ≡ Synced) nodes
all_wait [] stopped on open_yet = λ k d within. absurd (omega arith)
all_wait (n ∷ rest) stopped on open_yet =
    let here = or_false (is_running n.state) (some_runs rest) stopped in
    let on' = cond_none (was_stopped n.state) n (lowest was_stopped rest) on in
    let open' = cond_none (has_ended n.state) n (lowest has_ended rest) open_yet in
    All-cons (λ (n : NodeState). n.state ≡ Synced) n rest (Synced-from n.state here.0 on'.0 open'.0) (all_wait rest here.1 on'.1 open'.1)

CanExchange-from : (nodes : List NodeState) → some_runs nodes ≡ false → outcome_of nodes ≡ None → CanExchange nodes
CanExchange-from nodes stopped none =
    let parts =
    option_or_none (option_map stopped_by (lowest was_stopped nodes))
    (outcome_unstopped (lowest has_ended nodes) (lowest is_waiting nodes) nodes) none in
    let unstopped = unstopped_none (lowest has_ended nodes) (lowest is_waiting nodes) nodes parts.1 in
    record {
      waiting = all_wait nodes stopped (option_map_none stopped_by (lowest was_stopped nodes) parts.0) unstopped.0;
      fault = unstopped.1;
    }

-- as many areas in effect at each node
abbrev HaveAreas : List NodeState → Type 0
HaveAreas nodes = (count : ℕ) × All (λ n. length n.hart.communication.registrations.in_effect ≡ count) nodes

IsNodeOf-local_step : (s : Settings) (input : List ℕ) (n : NodeState) → IsNodeOf s n → IsNodeOf s (local_step input n)
IsNodeOf-local_step s input n of = record {
  nodes = (IsLater-local_step input n).nprocs ∙ of.nodes;
  memory = (IsLater-local_step input n).memory_size ∙ of.memory;
  limit = (IsLater-local_step input n).limit ∙ of.limit;
  unit = (IsLater-local_step input n).unit ∙ of.unit;
  reservation = (IsLater-local_step input n).reservation ∙ of.reservation;
  limits = (IsLater-local_step input n).limits s.large of.limits;
  sound = IsSoundNode-local_step input n of.sound;
}

IsUnderWay-local_step : (input : List ℕ) (exchanges : ℕ) (n : NodeState) (started : ℕ) → IsUnderWay exchanges n started
    → IsUnderWay exchanges (local_step input n) started
IsUnderWay-local_step input exchanges n started under = by (is_running n.state) refl
  where
    by : (r : Bool) → is_running n.state ≡ r → IsUnderWay exchanges (local_step input n) started
    by true is =
        let ticks = local_step-ticks input n is in
        record { exchanged = under.exchanged; kept = omega (arith, under.kept); waited = λ _. omega (arith, under.kept) }
    by false is = rw (local_step-stopped input n is) under

in_effect-local_step : (input : List ℕ) (count : ℕ) (n : NodeState) → length n.hart.communication.registrations.in_effect ≡ count
    → length (local_step input n).hart.communication.registrations.in_effect ≡ count
in_effect-local_step input count n long = ap length (IsLater-local_step input n).in_effect ∙ long

-- a machine without an outcome whose nodes make steps
module _ (m : MachineState) where
  IsSoundMachine-nodes : (nodes : List NodeState) → IsSoundMachine m → is_some m.outcome ≡ false
      → map (λ n. n.hart.rank) nodes ≡ map (λ n. n.hart.rank) m.nodes → All (IsNodeOf m.settings) nodes
      → AllZip (IsUnderWay m.exchanges) nodes m.started → (m.outcome ≡ None → AllZip (HasClock m.settings.clock m.ledger) nodes m.started)
      → HaveAreas nodes → IsSoundMachine (record m { nodes = nodes })
  IsSoundMachine-nodes nodes sound open_yet ranks of ticks clocks areas = record {
    settings = sound.settings;
    ranks = ranks ∙ sound.ranks;
    nodes = of;
    ticks = ticks;
    clocks = clocks;
    areas = areas;
    outcome = λ over. absurd (false≢true (sym open_yet ∙ over));
    ledger = sound.ledger;
  }

  pub IsSoundMachine-stepped : (rank : ℕ) → IsSoundMachine m → is_some m.outcome ≡ false → IsSoundMachine (made m (Step rank))
  IsSoundMachine-stepped rank sound open_yet =
      IsSoundMachine-nodes (made m (Step rank)).nodes sound open_yet
      (map-stepped m.input (λ n. n.hart.rank) (IsNodeOf m.settings) (λ n _. (IsLater-local_step m.input n).rank) rank m.nodes sound.nodes)
      (All-stepped m.input (IsNodeOf m.settings) (IsNodeOf-local_step m.settings m.input) rank m.nodes sound.nodes)
      (AllZip-stepped m.input (IsUnderWay m.exchanges) (IsUnderWay-local_step m.input m.exchanges) rank m.nodes m.started sound.ticks)
      (λ none. AllZip-stepped m.input (HasClock m.settings.clock m.ledger)
      (HasClock-local_step m.settings.clock m.ledger m.input) rank m.nodes m.started (sound.clocks none))
      (sound.areas.0, All-stepped m.input _ (in_effect-local_step m.input sound.areas.0) rank m.nodes sound.areas.1)

  pub IsSoundMachine-phases : IsSoundMachine m → is_some m.outcome ≡ false → IsSoundMachine (with_phases m)
  IsSoundMachine-phases sound open_yet =
      IsSoundMachine-nodes (with_phases m).nodes sound open_yet
      (map-phases m.input (λ n. n.hart.rank) (λ n. (IsLater-local_step m.input n).rank) m.nodes)
      (All-phases m.input (IsNodeOf m.settings) (IsNodeOf-local_step m.settings m.input) m.nodes sound.nodes)
      (AllZip-phases m.input (IsUnderWay m.exchanges) (IsUnderWay-local_step m.input m.exchanges) m.nodes m.started sound.ticks)
      (λ none. AllZip-phases m.input (HasClock m.settings.clock m.ledger)
      (HasClock-local_step m.settings.clock m.ledger m.input) m.nodes m.started (sound.clocks none))
      (sound.areas.0, All-phases m.input _ (in_effect-local_step m.input sound.areas.0) m.nodes sound.areas.1)

IsUnderWay-exchanged : (all : List NodeState) (exchanges : ℕ) (nodes : List NodeState) (started : List ℕ)
    → AllZip (IsUnderWay exchanges) nodes started → All (λ n. n.state ≡ Synced) nodes
    → AllZip (IsUnderWay (exchanges + 1)) (map (exchanged_node all) nodes) (map (λ (n : NodeState). n.ticks) nodes)
IsUnderWay-exchanged all exchanges [] started under waiting = tt
IsUnderWay-exchanged all exchanges (n ∷ rest) [] under waiting = absurd under
IsUnderWay-exchanged all exchanges (n ∷ rest) (t ∷ started) under waiting =
    let waited = under.0.waited (waiting 0 n (omega arith)) in
    let first : IsUnderWay (exchanges + 1) (exchanged_node all n) n.ticks = record {
      exchanged = omega (arith, under.0.exchanged, waited);
      kept = omega arith;
      waited = λ waits. absurd (not_synced n.ticks n.limit waits);
    } in
    (first, IsUnderWay-exchanged all exchanges rest started under.1 (λ k d within. waiting (suc k) d (omega arith)))

HasClock-begun : (prices : Option Prices) (rows : List CostRow) (all nodes : List NodeState)
    → AllZip (HasClock prices rows) (with_clocks prices rows (map (exchanged_node all) nodes)) (map (λ (n : NodeState). n.ticks) nodes)
HasClock-begun prices rows all [] = tt
HasClock-begun prices rows all (n ∷ rest) = (refl, HasClock-begun prices rows all rest)

-- a machine without an outcome none of whose nodes runs
module _ (m : MachineState) where
  pub length-nodes : IsSoundMachine m → length m.nodes ≡ m.settings.nodes
  length-nodes sound = sym (length-map m.nodes (λ n. n.hart.rank)) ∙ ap length sound.ranks ∙ length-range_with_len 0 m.settings.nodes

  ledger_open : IsSoundMachine m → is_some m.outcome ≡ false → length m.ledger ≡ m.exchanges + 0
  ledger_open sound open_yet = rw open_yet at sound.ledger

  IsSoundMachine-ended : (outcome : Outcome) → IsSoundMachine m → is_some m.outcome ≡ false → some_runs m.nodes ≡ false
      → IsSoundMachine (decided (Some outcome) (recorded m))
  IsSoundMachine-ended outcome sound open_yet stopped = record {
    settings = sound.settings;
    ranks = sound.ranks;
    nodes = sound.nodes;
    ticks = sound.ticks;
    clocks = λ none. absurd cc;
    areas = sound.areas;
    outcome = λ _. stopped;
    ledger = length_push m.ledger (cost_row m) ∙ ap (λ k. k + 1) (ledger_open sound open_yet ∙ add-zero m.exchanges);
  }

  IsSoundMachine-exchanged : IsSoundMachine m → is_some m.outcome ≡ false → CanExchange m.nodes → IsSoundMachine (decided None (recorded m))
  IsSoundMachine-exchanged sound open_yet can =
      let few = few_in_range m.settings sound.settings in
      let long = length-nodes sound in
      let each : All IsSoundNode m.nodes = All-weaker (IsNodeOf m.settings) IsSoundNode (λ n of. of.sound) m.nodes sound.nodes in
      let closed = closed_by m.settings.clock (recorded m).ledger in
      let begun = All-map (IsNodeOf m.settings) (exchanged_node m.nodes) m.nodes (λ k d within. let of = sound.nodes k d within in record {
        nodes = of.nodes;
        memory = length-memory_after (landings_at m.nodes (get_or m.nodes k d).hart.rank) (get_or m.nodes k d).hart.memory ∙ of.memory;
        limit = of.limit;
        unit = of.unit;
        reservation = of.reservation;
        limits = of.limits;
        sound = IsSoundNode-exchanged m.nodes (omega arith) each (get_or m.nodes k d) of.sound (can.waiting k d within);
      }) in
      let areas = areas-exchanged m.nodes can.fault each sound.areas in
      record {
        settings = sound.settings;
        ranks = map-begun closed m.nodes (λ n. n.hart.rank) (λ n. refl) (λ n. refl) m.nodes ∙ sound.ranks;
        nodes = All-clocks closed (IsNodeOf m.settings) (IsNodeOf-clock m.settings closed) (exchanged m.nodes) begun;
        ticks =
            AllZip-clocks closed (IsUnderWay (m.exchanges + 1))
            (λ n t under. record { exchanged = under.exchanged; kept = under.kept; waited = under.waited }) (exchanged m.nodes) _
            (IsUnderWay-exchanged m.nodes m.exchanges m.nodes m.started sound.ticks can.waiting);
        clocks = λ _. HasClock-begun m.settings.clock (recorded m).ledger m.nodes m.nodes;
        areas = (
          areas.0,
          All-clocks closed (λ n. length n.hart.communication.registrations.in_effect ≡ areas.0) (λ n long. long)
              (exchanged m.nodes) areas.1,
        );
        outcome = λ over. absurd (false≢true (sym open_yet ∙ over));
        ledger =
            rw open_yet
            (length_push m.ledger (cost_row m) ∙ ap (λ k. k + 1) (ledger_open sound open_yet ∙ add-zero m.exchanges)
            ∙ sym (add-zero (m.exchanges + 1)));
      }

  pub IsSoundMachine-turned : IsSoundMachine m → is_some m.outcome ≡ false → some_runs m.nodes ≡ false → IsSoundMachine (turned m)
  unfolding turned
  IsSoundMachine-turned sound open_yet stopped = by (outcome_of m.nodes) refl
    where
      by : (o : Option Outcome) → outcome_of m.nodes ≡ o → IsSoundMachine (decided o (recorded m))
      by None is = IsSoundMachine-exchanged sound open_yet (CanExchange-from m.nodes stopped is)
      by (Some outcome) is = IsSoundMachine-ended outcome sound open_yet stopped

-- nodes all of which wait are at sync
AreAtSync-waiting : (m : MachineState) → IsSoundMachine m → All (λ n. n.state ≡ Synced) m.nodes → AreAtSync m.nodes
AreAtSync-waiting m sound waiting =
    let long = length-nodes m sound in
    record {
      ranks = sound.ranks ∙ ap (λ k. range_with_len 0 k) (sym long);
      counts = λ k d within. (sound.nodes k d within).nodes ∙ sym long;
      waiting = waiting;
      areas = sound.areas;
    }

-- nodes that neither run, nor were stopped, nor ended are at sync
pub AreAtSync-from : (m : MachineState) → IsSoundMachine m → some_runs m.nodes ≡ false → lowest was_stopped m.nodes ≡ None
    → lowest has_ended m.nodes ≡ None → AreAtSync m.nodes
AreAtSync-from m sound stopped on open_yet = AreAtSync-waiting m sound (all_wait m.nodes stopped on open_yet)

-- an event that is enabled finds no outcome
module _ (m : MachineState) where
  pub enabled_open : (e : Event) → IsSoundMachine m → is_enabled m e ≡ true → is_some m.outcome ≡ false
  enabled_open (Step rank) sound enabled = by (is_some m.outcome) refl
    where
      by : (over : Bool) → is_some m.outcome ≡ over → over ≡ false
      by true is = absurd (false≢true (sym (sound.outcome is) ∙ some_runs-at m.nodes rank enabled))
      by false is = refl
  enabled_open Turn sound enabled = by (is_some m.outcome) enabled
    where
      by : (over : Bool) → not over && not (some_runs m.nodes) ≡ true → over ≡ false
      by true is = absurd cc
      by false is = refl

  pub turn_stopped : is_enabled m Turn ≡ true → some_runs m.nodes ≡ false
  turn_stopped enabled = by (some_runs m.nodes) (not (is_some m.outcome)) enabled
    where
      by : (some open_yet : Bool) → open_yet && not some ≡ true → some ≡ false
      by false open_yet is = refl
      by true true is = absurd cc
      by true false is = absurd cc

  pub IsSoundMachine-event : (e : Event) → IsSoundMachine m → IsSoundMachine (event m e)
  IsSoundMachine-event e sound = by (is_enabled m e) e refl
    where
      by : (enabled : Bool) (e : Event) → is_enabled m e ≡ enabled → IsSoundMachine (event m e)
      by false e is = rw (event-disabled m e is) sound
      by true (Step rank) is = rw (event-enabled m (Step rank) is) (IsSoundMachine-stepped m rank sound (enabled_open (Step rank) sound is))
      by true Turn is = rw (event-enabled m Turn is) (IsSoundMachine-turned m sound (enabled_open Turn sound is) (turn_stopped is))

  pub superstep-over : is_some m.outcome ≡ true → superstep m ≡ m
  unfolding superstep
  superstep-over over = rw over refl

  pub superstep-open : is_some m.outcome ≡ false → superstep m ≡ turned (with_phases m)
  unfolding superstep
  superstep-open open_yet = rw open_yet refl

  pub IsNode-each : IsSoundMachine m → All IsNode m.nodes
  IsNode-each sound = All-weaker (IsNodeOf m.settings) IsNode (λ n of. of.sound.node) m.nodes sound.nodes

  pub IsSoundMachine-superstep : IsSoundMachine m → IsSoundMachine (superstep m)
  IsSoundMachine-superstep sound = by (is_some m.outcome) refl
    where
      by : (over : Bool) → is_some m.outcome ≡ over → IsSoundMachine (superstep m)
      by true is = rw (superstep-over is) sound
      by false is =
          rw (superstep-open is)
          (IsSoundMachine-turned (with_phases m) (IsSoundMachine-phases m sound is) is
          (some_runs-phases m.input m.nodes (IsNode-each sound)))

pub IsSoundMachine-after : (m : MachineState) (events : List Event) → IsSoundMachine m → IsSoundMachine (after m events)
IsSoundMachine-after m [] sound = rw (after-nil m) sound
IsSoundMachine-after m (e ∷ events) sound =
    rw (after-cons m e events) (IsSoundMachine-after (event m e) events (IsSoundMachine-event m e sound))

pub IsSoundMachine-supersteps : (k : ℕ) (m : MachineState) → IsSoundMachine m → IsSoundMachine (iterate superstep k m)
IsSoundMachine-supersteps zero m sound = sound
IsSoundMachine-supersteps (suc k) m sound = IsSoundMachine-supersteps k (superstep m) (IsSoundMachine-superstep m sound)
