-- Steps of one node of a machine.
use Rattle.std.proofs.Common.{◌≡◌, ℕ, zero, suc, ◌<◌, ◌≤◌, Bool, false, List, length, replicate, Option, refl, sym, ap, ap₂, subst, ◌∙◌}
use Rattle.std.proofs.Common.{arith}
use Rattle.std.specs.Prelude.{slice_get, IfOk, IsSomeAnd}
use Rattle.std.specs.Option.{option_map_or}
use Rattle.std.proofs.lemmas.Option.{slice_get_past}
use Rattle.std.specs.declared.alloc.AllocError.{AllocError}
use Rattle.std.specs.declared.result.Result.{Result}
use Rattle.std.proofs.Common.{Ok, Err}
use Rattle.node_core.specs.Node.{NodeState, PreparedNode, MayRefuseStep}
use Rattle.bsp_exchange.specs.Exchange.{states}
use Rattle.machine_core.specs.declared.event.Event.{Event}
use Rattle.machine_core.specs.declared.event.Event.TheVariants.{Step}
use Rattle.machine_core.specs.Machine.{MachineState}
use Rattle.machine_core.specs.Events.{AreStepsMade, IsAnswered, MayRefuseEvent, runs, is_enabled, stepped, stepped_often, event, after}
use Rattle.machine_core.specs.Inside.{AreRowSteps}
use Rattle.machine_core.specs.Sound.{IsSoundMachine}
use Rattle.machine_core.proofs.Sound.{IsSoundMachine-after}
use Rattle.machine_core.proofs.Steps.{after-nil, after-cons, event-step, event-disabled}

-- so many steps of one rank
abbrev pub steps_of : ℕ → ℕ → List Event
steps_of rank k = replicate k (Step rank)

pub after-often : (k : ℕ) (m : MachineState) (rank : ℕ)
    → after m (steps_of rank k) ≡ record m { nodes = stepped_often m.input rank k m.nodes }
after-often zero m rank = after-nil m
after-often (suc k) m rank =
    after-cons m (Step rank) (steps_of rank k)
    ∙ ap (λ (x : MachineState). after x (steps_of rank k)) (event-step m rank)
    ∙ after-often k (record m { nodes = stepped m.input rank m.nodes }) rank

-- a rank that is absent makes no step
pub steps-absent : (k : ℕ) (m : MachineState) (rank : ℕ) → length m.nodes ≤ rank → m ≡ after m (steps_of rank k)
steps-absent zero m rank past = sym (after-nil m)
steps-absent (suc k) m rank past =
    let off : is_enabled m (Step rank) ≡ false =
    ap (λ (o : Option NodeState). option_map_or runs o false) (slice_get_past m.nodes rank past) in
    steps-absent k m rank past
    ∙ sym (after-cons m (Step rank) (steps_of rank k) ∙ ap (λ (x : MachineState). after x (steps_of rank k))
    (event-disabled m (Step rank) off))

-- the next step of a rank may be refused, by the input and the row as they are now
pub may_refuse : (input input' : List ℕ) (nodes nodes' : List NodeState) (rank : ℕ) → input ≡ input' → nodes' ≡ nodes
    → IsSomeAnd (slice_get nodes rank) (λ n. MayRefuseStep input n) → IsSomeAnd (slice_get nodes' rank) (λ n. MayRefuseStep input' n)
may_refuse input input' nodes nodes' rank input_is nodes_is may = rw (nodes_is, ← input_is) may

-- one step of a row that is refused leaves it as it was
none_of_one : (input : List ℕ) (rank k : ℕ) (old : List NodeState) → k < 1 → stepped_often input rank k old ≡ old
none_of_one input rank zero old less = refl
none_of_one input rank (suc k) old less = absurd (omega arith)

-- a machine whose row and input were handed out, and which got `row` back
module _ (m : MachineState) (input : List ℕ) (old new : List PreparedNode) (row : List NodeState) (rank : ℕ) (input_is : input ≡ m.input)
    (old_is : states old ≡ m.nodes) (row_is : row ≡ states new) where
  with-steps : (k : ℕ) → states new ≡ stepped_often input rank k (states old) → record m { nodes = row } ≡ after m (steps_of rank k)
  with-steps k made =
      ap (λ (xs : List NodeState). record m { nodes = xs })
      (row_is ∙ made ∙ ap₂ (λ (i : List ℕ) (xs : List NodeState). stepped_often i rank k xs) input_is old_is)
      ∙ sym (after-often k m rank)

  pub sound-steps : {T : Type 0} (r : Result T AllocError) (most : ℕ) → IsSoundMachine m → AreRowSteps input rank most old new r
      → IsSoundMachine (record m { nodes = row })
  sound-steps (Ok x) most sound made = rw (with-steps most made.ok) (IsSoundMachine-after m (steps_of rank most) sound)
  sound-steps (Err e) most sound made = rw (with-steps made.err.0 made.err.2) (IsSoundMachine-after m (steps_of rank made.err.0) sound)

  pub steps_made : {T : Type 0} (before : MachineState) (r : Result T AllocError) (most : ℕ) → m ≡ before
      → AreRowSteps input rank most old new r → AreStepsMade rank most before (record m { nodes = row }) r
  steps_made before (Ok x) most m_is made =
      record { ok = with-steps most made.ok ∙ ap (λ (x : MachineState). after x (steps_of rank most)) m_is; err = tt; refuses = tt }
  steps_made before (Err e) most m_is made = record {
    ok = tt;
    err = (made.err.0, made.err.1, with-steps made.err.0 made.err.2 ∙ ap (λ (x : MachineState). after x (steps_of rank made.err.0)) m_is);
    refuses = may_refuse input m.input (states new) row rank input_is row_is made.refuses;
  }

  -- one step, as an event
  pub step_answered : (before : MachineState) (r : Result Bool AllocError) → m ≡ before → AreRowSteps input rank 1 old new r
      → IfOk r (λ made. made ≡ option_map_or runs (slice_get (states old) rank) false)
      → IsAnswered (Step rank) before (record m { nodes = row }) r
  step_answered before (Ok x) m_is made is = record {
    ok =
        ap (λ (xs : List NodeState). record m { nodes = xs })
        (row_is ∙ made.ok ∙ ap₂ (λ (i : List ℕ) (xs : List NodeState). stepped i rank xs) input_is old_is)
        ∙ sym (event-step m rank) ∙ ap (λ (m : MachineState). event m (Step rank)) m_is;
    enabled =
        is ∙ ap (λ (xs : List NodeState). option_map_or runs (slice_get xs rank) false) (old_is ∙ ap (λ (m : MachineState). m.nodes) m_is);
    err = tt;
    refuses = tt;
  }
  step_answered before (Err e) m_is made is =
      let same : states new ≡ states old = made.err.2 ∙ none_of_one input rank made.err.0 (states old) made.err.1 in
      record {
        ok = tt;
        enabled = tt;
        err = ap (λ (xs : List NodeState). record m { nodes = xs }) (row_is ∙ same ∙ old_is) ∙ m_is;
        refuses =
            subst (λ (m : MachineState). MayRefuseEvent m (Step rank)) m_is
            (may_refuse input m.input (states new) m.nodes rank input_is (sym (same ∙ old_is)) made.refuses);
      }
