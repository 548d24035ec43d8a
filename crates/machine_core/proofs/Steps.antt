-- Events that are steps.
use Rattle.std.proofs.Common.{◌≡◌, ◌≢◌, ℕ, ◌+◌, Bool, true, false, cond, List, [], ◌∷◌, Option, Some, None, option_map, refl, sym, ap, ap₂}
use Rattle.std.proofs.Common.{◌∙◌}
use Rattle.std.specs.Prelude.{slice_get, ◌==◌, count_by}
use Rattle.std.proofs.lemmas.Bool.{eqb-true, eq-eqb, false≢true}
use Rattle.std.proofs.lemmas.List.Sums.{sum_by-cons}
use Rattle.node_core.specs.Node.{NodeState, local_step, local_steps}
use Rattle.node_core.proofs.Steps.{local_steps-zero, local_steps-one, local_steps-add}
use Rattle.machine_core.specs.declared.event.Event.{Event}
use Rattle.machine_core.specs.declared.event.Event.TheVariants.{Step, Turn}
use Rattle.machine_core.specs.Machine.{MachineState}
use Rattle.machine_core.specs.Events.{is_enabled, made, event, after, is_step_of, makes_turn, MakeNoTurn}
use Rattle.machine_core.proofs.Rows.{stepped-disabled, stepped-comm, slice_get-stepped, slice_get-stepped_other}

pub after-nil : (m : MachineState) → after m [] ≡ m
unfolding after
after-nil m = refl

pub after-cons : (m : MachineState) (e : Event) (events : List Event) → after m (e ∷ events) ≡ after (event m e) events
unfolding after
after-cons m e events = refl

pub event-enabled : (m : MachineState) (e : Event) → is_enabled m e ≡ true → event m e ≡ made m e
unfolding event
event-enabled m e enabled = rw enabled refl

pub event-disabled : (m : MachineState) (e : Event) → is_enabled m e ≡ false → event m e ≡ m
unfolding event
event-disabled m e disabled = rw disabled refl

-- a step that is not enabled is one that changes nothing
pub event-step : (m : MachineState) (rank : ℕ) → event m (Step rank) ≡ made m (Step rank)
event-step m rank = by (is_enabled m (Step rank)) refl
  where
    by : (enabled : Bool) → is_enabled m (Step rank) ≡ enabled → event m (Step rank) ≡ made m (Step rank)
    by true is = event-enabled m (Step rank) is
    by false is =
        event-disabled m (Step rank) is
        ∙ sym (ap (λ (nodes : List NodeState). record m { nodes = nodes }) (stepped-disabled m.input rank m.nodes is))

pub steps-comm : (m : MachineState) (r s : ℕ) → r ≢ s → event (event m (Step r)) (Step s) ≡ event (event m (Step s)) (Step r)
steps-comm m r s other =
    ap (λ (x : MachineState). event x (Step s)) (event-step m r) ∙ event-step (made m (Step r)) s
    ∙ ap (λ (nodes : List NodeState). record m { nodes = nodes }) (stepped-comm m.input r s m.nodes other)
    ∙ sym (event-step (made m (Step s)) r) ∙ ap (λ (x : MachineState). event x (Step r)) (sym (event-step m s))

-- without a turn, a node has made as many steps as there are events of its own, and all else is as it was
option_map-steps : (input : List ℕ) (a b : ℕ) (o : Option NodeState)
    → option_map (local_steps input b) (option_map (local_steps input a) o) ≡ option_map (local_steps input (a + b)) o
option_map-steps input a b None = refl
option_map-steps input a b (Some n) = ap (λ (x : NodeState). Some x) (sym (local_steps-add input a b n))

zero_steps : (input : List ℕ) (o : Option NodeState) → o ≡ option_map (local_steps input 0) o
zero_steps input None = refl
zero_steps input (Some n) = ap (λ (x : NodeState). Some x) (sym (local_steps-zero input n))

one_step : (input : List ℕ) (o : Option NodeState) → option_map (local_step input) o ≡ option_map (local_steps input 1) o
one_step input None = refl
one_step input (Some n) = ap (λ (x : NodeState). Some x) (sym (local_steps-one input n))

slice_get-event : (m : MachineState) (e : Event) (rank : ℕ) → makes_turn m e ≡ false
    → slice_get (event m e).nodes rank ≡ option_map (local_steps m.input (cond (is_step_of rank e) 1 0)) (slice_get m.nodes rank)
slice_get-event m (Step other) rank turns = by (other == rank) refl
  where
    by : (same : Bool) → (other == rank) ≡ same
        → slice_get (event m (Step other)).nodes rank ≡ option_map (local_steps m.input (cond (other == rank) 1 0)) (slice_get m.nodes rank)
    by true is =
        let same = eqb-true other rank is in
        rw (event-step m other, is) (rw same (slice_get-stepped m.input rank m.nodes ∙ one_step m.input (slice_get m.nodes rank)))
    by false is =
        rw (event-step m other, is)
        (slice_get-stepped_other m.input rank other m.nodes (λ same. false≢true (sym is ∙ eq-eqb other rank same))
        ∙ zero_steps m.input (slice_get m.nodes rank))
slice_get-event m Turn rank turns = rw (event-disabled m Turn turns) (zero_steps m.input (slice_get m.nodes rank))

-- what is not a turn changes nothing but nodes
event-others : (m : MachineState) (e : Event) → makes_turn m e ≡ false → event m e ≡ record m { nodes = (event m e).nodes }
event-others m (Step rank) turns = rw (event-step m rank) refl
event-others m Turn turns = rw (event-disabled m Turn turns) refl

pub slice_get-after : (m : MachineState) (events : List Event) (rank : ℕ) → MakeNoTurn m events
    → slice_get (after m events).nodes rank ≡ option_map (local_steps m.input (count_by (is_step_of rank) events)) (slice_get m.nodes rank)
slice_get-after m [] rank none = rw (after-nil m) (zero_steps m.input (slice_get m.nodes rank))
slice_get-after m (e ∷ events) rank none =
    let input = ap (λ (x : MachineState). x.input) (event-others m e none.0) in
    let rest = slice_get-after (event m e) events rank none.1 in
    let count = sum_by-cons (λ (x : Event). cond (is_step_of rank x) 1 0) e events in
    ap (λ (x : MachineState). slice_get x.nodes rank) (after-cons m e events)
    ∙ rest
    ∙ ap₂ (λ (i : List ℕ) (o : Option NodeState). option_map (local_steps i (count_by (is_step_of rank) events)) o) input
    (slice_get-event m e rank none.0)
    ∙ option_map-steps m.input (cond (is_step_of rank e) 1 0) (count_by (is_step_of rank) events) (slice_get m.nodes rank)
    ∙ ap (λ k. option_map (local_steps m.input k) (slice_get m.nodes rank)) (sym count)

pub after-others : (m : MachineState) (events : List Event) → MakeNoTurn m events
    → after m events ≡ record m { nodes = (after m events).nodes }
after-others m [] none = rw (after-nil m) refl
after-others m (e ∷ events) none =
    let rest = after-others (event m e) events none.1 in
    let nodes = (after (event m e) events).nodes in
    rw (after-cons m e events) (rest ∙ ap (λ (x : MachineState). record x { nodes = nodes }) (event-others m e none.0))
