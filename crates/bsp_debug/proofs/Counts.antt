-- How many steps a node makes.
use Rattle.std.proofs.Common.{◌≡◌, ℕ, zero, suc, ◌-◌, ◌<◌, ◌≤◌, Bool, true, false, List, replicate, Option, Some, None, option_map, refl}
use Rattle.std.proofs.Common.{sym, ap, ◌∙◌, arith}
use Rattle.std.specs.Prelude.{slice_get}
use Rattle.std.specs.Option.{option_map_or}
use Rattle.std.proofs.lemmas.Bool.{false≢true}
use Rattle.node_core.specs.Node.{NodeState, is_running, local_step, local_steps}
use Rattle.node_core.proofs.Steps.{local_steps-zero, local_steps-suc, local_steps-stopped}
use Rattle.node_core.proofs.Sound.{local_step-ticks, IsLater-local_steps}
use Rattle.machine_core.specs.declared.event.Event.TheVariants.{Step}
use Rattle.machine_core.specs.Machine.{MachineState}
use Rattle.machine_core.specs.Events.{runs, is_enabled, event, stepped_often}
use Rattle.machine_core.proofs.Rows.{slice_get-stepped}
use Rattle.machine_core.proofs.Runs.{after-often}
use Rattle.machine_core.proofs.States.{often-found, often-none, slice_get-slice_set}
use Rattle.machine_core.proofs.Steps.{after-nil, after-cons, event-step, event-disabled}
use Rattle.bsp_debug.specs.Debugger.{steps_made, steps_at}
use Rattle.bsp_debug.specs.Trace.{after_steps}

module _ (input : List ℕ) where
  steps_made-zero : (s : NodeState) → steps_made input 0 s ≡ 0
  steps_made-zero s = ap (λ (x : NodeState). x.ticks - s.ticks) (local_steps-zero input s) ∙ omega arith

  steps_made-stopped : (n : ℕ) (s : NodeState) → is_running s.state ≡ false → steps_made input n s ≡ 0
  steps_made-stopped n s stopped = ap (λ (x : NodeState). x.ticks - s.ticks) (local_steps-stopped input n s stopped) ∙ omega arith

  steps_made-suc : (n : ℕ) (s : NodeState) → is_running s.state ≡ true
      → steps_made input (suc n) s ≡ suc (steps_made input n (local_step input s))
  steps_made-suc n s running =
      let next = local_step input s in
      let first = local_step-ticks input s running in
      let later = (IsLater-local_steps input n next).ticks in
      ap (λ (x : NodeState). x.ticks - s.ticks) (local_steps-suc input n s) ∙ omega (arith, first, later)

-- the ticks of the node of a rank
abbrev pub ticks_at : MachineState → ℕ → ℕ
ticks_at m rank = option_map_or (λ (n : NodeState). n.ticks) (slice_get m.nodes rank) 0

module _ (m : MachineState) (rank : ℕ) where
  pub after_steps-zero : after_steps m rank 0 ≡ m
  after_steps-zero = after-nil m

  pub after_steps-suc : (n : ℕ) → after_steps m rank (suc n) ≡ after_steps (event m (Step rank)) rank n
  after_steps-suc n = after-cons m (Step rank) (replicate n (Step rank))

  found-next : slice_get (event m (Step rank)).nodes rank ≡ option_map (local_step m.input) (slice_get m.nodes rank)
  found-next = ap (λ (x : MachineState). slice_get x.nodes rank) (event-step m rank) ∙ slice_get-stepped m.input rank m.nodes

  input-next : (event m (Step rank)).input ≡ m.input
  input-next = ap (λ (x : MachineState). x.input) (event-step m rank)

  pub steps_at-zero : steps_at m rank 0 ≡ 0
  steps_at-zero = by (slice_get m.nodes rank)
    where
      by : (o : Option NodeState) → option_map_or (steps_made m.input 0) o 0 ≡ 0
      by None = refl
      by (Some s) = steps_made-zero m.input s

  pub steps_at-disabled : (n : ℕ) → is_enabled m (Step rank) ≡ false → steps_at m rank n ≡ 0
  steps_at-disabled n = by (slice_get m.nodes rank)
    where
      by : (o : Option NodeState) → option_map_or runs o false ≡ false → option_map_or (steps_made m.input n) o 0 ≡ 0
      by None off = refl
      by (Some s) off = steps_made-stopped m.input n s off

  pub steps_at-suc : (n : ℕ) → is_enabled m (Step rank) ≡ true → steps_at m rank (suc n) ≡ suc (steps_at (event m (Step rank)) rank n)
  steps_at-suc n enabled = rw (found-next, input-next) (by (slice_get m.nodes rank) enabled)
    where
      by : (o : Option NodeState) → option_map_or runs o false ≡ true
          → option_map_or (steps_made m.input (suc n)) o 0
          ≡ suc (option_map_or (steps_made m.input n) (option_map (local_step m.input) o) 0)
      by None on = absurd (false≢true on)
      by (Some s) on = steps_made-suc m.input n s on

-- steps of a node that does not run change nothing
pub after_steps-disabled : (n : ℕ) (m : MachineState) (rank : ℕ) → is_enabled m (Step rank) ≡ false → after_steps m rank n ≡ m
after_steps-disabled zero m rank off = after_steps-zero m rank
after_steps-disabled (suc n) m rank off =
    after_steps-suc m rank n ∙ ap (λ (x : MachineState). after_steps x rank n) (event-disabled m (Step rank) off)
    ∙ after_steps-disabled n m rank off

-- the steps that it made are enough
pub after_steps-made : (n : ℕ) (m : MachineState) (rank : ℕ) → after_steps m rank n ≡ after_steps m rank (steps_at m rank n)
after_steps-made zero m rank = ap (λ k. after_steps m rank k) (sym (steps_at-zero m rank))
after_steps-made (suc n) m rank = by (λ x. after_steps-made n x rank) (is_enabled m (Step rank)) refl
  where
    by : ((x : MachineState) → after_steps x rank n ≡ after_steps x rank (steps_at x rank n)) → (enabled : Bool)
        → is_enabled m (Step rank) ≡ enabled → after_steps m rank (suc n) ≡ after_steps m rank (steps_at m rank (suc n))
    by fewer false is = after_steps-disabled (suc n) m rank is ∙ sym (after_steps-disabled (steps_at m rank (suc n)) m rank is)
    by fewer true is =
        let next = event m (Step rank) in
        after_steps-suc m rank n ∙ fewer next ∙ sym (after_steps-suc m rank (steps_at next rank n))
        ∙ ap (λ k. after_steps m rank k) (sym (steps_at-suc m rank n is))

-- it runs before each step that it made
pub enabled-before : (n : ℕ) (m : MachineState) (rank j : ℕ) → j < steps_at m rank n → is_enabled (after_steps m rank j) (Step rank) ≡ true
enabled-before zero m rank j below = absurd (omega (arith, below, steps_at-zero m rank))
enabled-before (suc n) m rank j below = by (λ x i within. enabled-before n x rank i within) (is_enabled m (Step rank)) refl j below
  where
    by : ((x : MachineState) (i : ℕ) → i < steps_at x rank n → is_enabled (after_steps x rank i) (Step rank) ≡ true) → (enabled : Bool)
        → is_enabled m (Step rank) ≡ enabled → (i : ℕ) → i < steps_at m rank (suc n) → is_enabled (after_steps m rank i) (Step rank) ≡ true
    by fewer false is i within = absurd (omega (arith, within, steps_at-disabled m rank (suc n) is))
    by fewer true is zero within = ap (λ (x : MachineState). is_enabled x (Step rank)) (after_steps-zero m rank) ∙ is
    by fewer true is (suc i) within =
        ap (λ (x : MachineState). is_enabled x (Step rank)) (after_steps-suc m rank i)
        ∙ fewer (event m (Step rank)) i (omega (arith, within, steps_at-suc m rank n is))

-- fewer steps asked for are fewer made
pub steps_at-le : (k n : ℕ) (m : MachineState) (rank : ℕ) → k ≤ n → steps_at m rank k ≤ steps_at m rank n
steps_at-le zero n m rank below = omega (arith, steps_at-zero m rank)
steps_at-le (suc k) zero m rank below = absurd (omega (arith, below))
steps_at-le (suc k) (suc n) m rank below = by (λ x. steps_at-le k n x rank (omega (arith, below))) (is_enabled m (Step rank)) refl
  where
    by : ((x : MachineState) → steps_at x rank k ≤ steps_at x rank n) → (enabled : Bool) → is_enabled m (Step rank) ≡ enabled
        → steps_at m rank (suc k) ≤ steps_at m rank (suc n)
    by fewer false is = omega (arith, steps_at-disabled m rank (suc k) is)
    by fewer true is = omega (arith, steps_at-suc m rank k is, steps_at-suc m rank n is, fewer (event m (Step rank)))

pub steps_at-most : (n : ℕ) (m : MachineState) (rank : ℕ) → steps_at m rank n ≤ n
steps_at-most zero m rank = omega (arith, steps_at-zero m rank)
steps_at-most (suc n) m rank = by (λ x. steps_at-most n x rank) (is_enabled m (Step rank)) refl
  where
    by : ((x : MachineState) → steps_at x rank n ≤ n) → (enabled : Bool) → is_enabled m (Step rank) ≡ enabled
        → steps_at m rank (suc n) ≤ suc n
    by fewer false is = omega (arith, steps_at-disabled m rank (suc n) is)
    by fewer true is = omega (arith, steps_at-suc m rank n is, fewer (event m (Step rank)))

-- where it runs before each of n steps, it makes all of them
pub steps_at-all : (n : ℕ) (m : MachineState) (rank : ℕ) → ((j : ℕ) → j < n → is_enabled (after_steps m rank j) (Step rank) ≡ true)
    → steps_at m rank n ≡ n
steps_at-all zero m rank enabled = steps_at-zero m rank
steps_at-all (suc n) m rank enabled =
    let first : is_enabled m (Step rank) ≡ true =
    sym (ap (λ (x : MachineState). is_enabled x (Step rank)) (after_steps-zero m rank)) ∙ enabled 0 (omega arith) in
    steps_at-suc m rank n first
    ∙ ap suc
    (steps_at-all n (event m (Step rank)) rank
    (λ j below. sym (ap (λ (x : MachineState). is_enabled x (Step rank)) (after_steps-suc m rank j))
    ∙ enabled (suc j) (omega (arith, below))))

-- where it makes fewer than it is asked for, it has stopped
pub steps_at-short : (n : ℕ) (m : MachineState) (rank : ℕ) → steps_at m rank n < n
    → is_enabled (after_steps m rank (steps_at m rank n)) (Step rank) ≡ false
steps_at-short zero m rank short = absurd (omega (arith, short))
steps_at-short (suc n) m rank short = by (λ x fewer. steps_at-short n x rank fewer) (is_enabled m (Step rank)) refl
  where
    by : ((x : MachineState) → steps_at x rank n < n → is_enabled (after_steps x rank (steps_at x rank n)) (Step rank) ≡ false)
        → (enabled : Bool) → is_enabled m (Step rank) ≡ enabled
        → is_enabled (after_steps m rank (steps_at m rank (suc n))) (Step rank) ≡ false
    by later false is =
        ap (λ k. is_enabled (after_steps m rank k) (Step rank)) (steps_at-disabled m rank (suc n) is)
        ∙ ap (λ (x : MachineState). is_enabled x (Step rank)) (after_steps-zero m rank) ∙ is
    by later true is =
        let next = event m (Step rank) in
        let one = steps_at-suc m rank n is in
        ap (λ k. is_enabled (after_steps m rank k) (Step rank)) one
        ∙ ap (λ (x : MachineState). is_enabled x (Step rank)) (after_steps-suc m rank (steps_at next rank n))
        ∙ later next (omega (arith, one, short))

-- the ticks tell how many it made
pub ticks_at-steps : (n : ℕ) (m : MachineState) (rank : ℕ) → ticks_at (after_steps m rank n) rank - ticks_at m rank ≡ steps_at m rank n
ticks_at-steps n m rank =
    ap (λ (x : MachineState). ticks_at x rank - ticks_at m rank) (after-often n m rank) ∙ by (slice_get m.nodes rank) refl
  where
    ticks_in : Option NodeState → ℕ
    ticks_in o = option_map_or (λ (s : NodeState). s.ticks) o 0

    by : (o : Option NodeState) → slice_get m.nodes rank ≡ o
        → ticks_at (record m { nodes = stepped_often m.input rank n m.nodes }) rank - ticks_at m rank ≡ steps_at m rank n
    by None is = rw (often-none m.input n rank m.nodes is, is) (omega arith)
    by (Some s) is = rw (often-found m.input n rank m.nodes s is, slice_get-slice_set m.nodes rank s (local_steps m.input n s) is, is) refl
