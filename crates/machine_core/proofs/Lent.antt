-- Rows in which each node has made some steps of its own.
use Rattle.std.proofs.Common.{◌≡◌, ℕ, zero, suc, List, [], ◌∷◌, map, refl, sym, ap, subst, ◌∙◌}
use Rattle.node_core.specs.Node.{NodeState, local_step, local_steps}
use Rattle.node_core.proofs.Steps.{local_steps-zero, local_steps-suc}
use Rattle.machine_core.specs.declared.event.Event.{Event}
use Rattle.machine_core.specs.declared.event.Event.TheVariants.{Step}
use Rattle.machine_core.specs.Machine.{MachineState}
use Rattle.machine_core.specs.Events.{HaveStepped, stepped, event, after, MakeNoTurn}
use Rattle.machine_core.specs.Sound.{IsSoundMachine}
use Rattle.machine_core.proofs.Rows.{stepped-suc}
use Rattle.machine_core.proofs.Sound.{IsSoundMachine-after}
use Rattle.machine_core.proofs.Steps.{after-nil, after-cons, event-step}

-- the nodes after steps of these ranks
row_after : List ℕ → List ℕ → List NodeState → List NodeState
row_after input [] nodes = nodes
row_after input (rank ∷ ranks) nodes = row_after input ranks (stepped input rank nodes)

-- steps of the first node, and then of the others
first_then : ℕ → List ℕ → List ℕ
first_then zero ranks = map (λ r. suc r) ranks
first_then (suc k) ranks = zero ∷ first_then k ranks

module _ (input : List ℕ) where
  row-others : (ranks : List ℕ) (n : NodeState) (rest : List NodeState)
      → row_after input (map (λ r. suc r) ranks) (n ∷ rest) ≡ n ∷ row_after input ranks rest
  unfolding row_after
  row-others [] n rest = refl
  row-others (rank ∷ ranks) n rest =
      ap (row_after input (map (λ r. suc r) ranks)) (stepped-suc input rank n rest) ∙ row-others ranks n (stepped input rank rest)

  row-first : (k : ℕ) (ranks : List ℕ) (n : NodeState) (rest : List NodeState)
      → row_after input (first_then k ranks) (n ∷ rest) ≡ local_steps input k n ∷ row_after input ranks rest
  unfolding row_after first_then
  row-first zero ranks n rest =
      row-others ranks n rest ∙ ap (λ (x : NodeState). x ∷ row_after input ranks rest) (sym (local_steps-zero input n))
  row-first (suc k) ranks n rest =
      row-first k ranks (local_step input n) rest ∙ ap (λ (x : NodeState). x ∷ row_after input ranks rest) (sym (local_steps-suc input k n))

  row-ranks : (old new : List NodeState) → HaveStepped input old new → (ranks : List ℕ) × (row_after input ranks old ≡ new)
  unfolding row_after
  row-ranks [] [] each = ([], refl)
  row-ranks [] (n ∷ new) each = absurd each
  row-ranks (o ∷ old) [] each = absurd each
  row-ranks (o ∷ old) (n ∷ new) each =
      let rest = row-ranks old new each.1 in (
        first_then each.0.0 rest.0,
        row-first each.0.0 rest.0 o old
            ∙ ap (λ (x : NodeState). x ∷ row_after input rest.0 old) (sym each.0.1)
            ∙ ap (λ (xs : List NodeState). n ∷ xs) rest.1,
      )

steps_of : List ℕ → List Event
steps_of [] = []
steps_of (rank ∷ ranks) = Step rank ∷ steps_of ranks

no_turn : (m : MachineState) (ranks : List ℕ) → MakeNoTurn m (steps_of ranks)
unfolding steps_of
no_turn m [] = tt
no_turn m (rank ∷ ranks) = (refl, no_turn (event m (Step rank)) ranks)

after-steps : (m : MachineState) (ranks : List ℕ) → after m (steps_of ranks) ≡ record m { nodes = row_after m.input ranks m.nodes }
unfolding steps_of row_after
after-steps m [] = after-nil m
after-steps m (rank ∷ ranks) =
    after-cons m (Step rank) (steps_of ranks)
    ∙ ap (λ (x : MachineState). after x (steps_of ranks)) (event-step m rank)
    ∙ after-steps (record m { nodes = stepped m.input rank m.nodes }) ranks

pub row_is_events : (m : MachineState) (nodes : List NodeState) → HaveStepped m.input m.nodes nodes
    → (events : List Event) × MakeNoTurn m events × (after m events ≡ record m { nodes = nodes })
row_is_events m nodes each =
    let ranks = row-ranks m.input m.nodes nodes each in
    (steps_of ranks.0, no_turn m ranks.0, after-steps m ranks.0 ∙ ap (λ (xs : List NodeState). record m { nodes = xs }) ranks.1)

-- a sound machine whose row comes back after such steps is sound
pub IsSoundMachine-lent : (m : MachineState) (nodes : List NodeState) → IsSoundMachine m → HaveStepped m.input m.nodes nodes
    → IsSoundMachine (record m { nodes = nodes })
IsSoundMachine-lent m nodes sound each =
    let events = row_is_events m nodes each in
    subst IsSoundMachine events.2 (IsSoundMachine-after m events.0 sound)
