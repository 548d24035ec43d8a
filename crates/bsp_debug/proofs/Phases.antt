-- The local parts of a superstep, taken down.
use Rattle.std.proofs.Common.{◌≡◌, ℕ, zero, suc, ◌+◌, ◌≤◌, Bool, true, false, List}
use Rattle.std.proofs.Common.{[], ◌∷◌, ◌++◌, replicate, refl, sym, ap, ap₂, ◌∙◌, arith}
use Rattle.machine_core.specs.declared.event.Event.{Event}
use Rattle.machine_core.specs.declared.event.Event.TheVariants.{Step}
use Rattle.machine_core.specs.Machine.{MachineState}
use Rattle.machine_core.specs.Events.{is_enabled, event, after, MakeNoTurn}
use Rattle.machine_core.specs.Sound.{IsSoundMachine}
use Rattle.machine_core.specs.Walk.{walk, walked}
use Rattle.machine_core.proofs.Sound.{IsSoundMachine-event}
use Rattle.machine_core.proofs.Steps.{after-nil, after-cons}
use Rattle.machine_core.proofs.Walks.{walk-zero, walk-some, next_event-step, enabled-other}
use Rattle.bsp_debug.specs.Debugger.{steps_at, IsWithinPhases}
use Rattle.bsp_debug.specs.Going.{HaveStoppedBelow}
use Rattle.bsp_debug.proofs.Counts.{steps_at-zero, steps_at-disabled, steps_at-suc}
use Rattle.bsp_debug.proofs.Stops.{walk-add}

-- the steps that the lowest rank that runs makes are the next events of the walk
pub walk-steps : (k n : ℕ) (m : MachineState) (rank : ℕ) → IsSoundMachine m → HaveStoppedBelow rank m → k ≤ steps_at m rank n
    → walk k m ≡ replicate k (Step rank)
walk-steps zero n m rank sound below most = walk-zero m
walk-steps (suc k) zero m rank sound below most = absurd (omega (arith, most, steps_at-zero m rank))
walk-steps (suc k) (suc n) m rank sound below most =
    by (λ x sound' below' most'. walk-steps k n x rank sound' below' most') (is_enabled m (Step rank)) refl
  where
    by : ((x : MachineState) → IsSoundMachine x → HaveStoppedBelow rank x → k ≤ steps_at x rank n → walk k x ≡ replicate k (Step rank))
        → (enabled : Bool) → is_enabled m (Step rank) ≡ enabled → walk (suc k) m ≡ replicate (suc k) (Step rank)
    by fewer false is = absurd (omega (arith, most, steps_at-disabled m rank (suc n) is))
    by fewer true is =
        let next = event m (Step rank) in
        walk-some k m (Step rank) (next_event-step m rank sound is below)
        ∙ ap (λ xs. Step rank ∷ xs) (fewer next (IsSoundMachine-event m (Step rank) sound)
        (λ j within. enabled-other m rank j (λ same. omega (arith, same, within)) ∙ below j within)
        (omega (arith, most, steps_at-suc m rank n is)))

pub MakeNoTurn-append : (xs ys : List Event) (m : MachineState) → MakeNoTurn m xs → MakeNoTurn (after m xs) ys → MakeNoTurn m (xs ++ ys)
MakeNoTurn-append [] ys m first next = rw (after-nil m) at next
MakeNoTurn-append (e ∷ xs) ys m first next = (first.0, MakeNoTurn-append xs ys (event m e) first.1 (rw (after-cons m e xs) at next))

MakeNoTurn-steps : (k : ℕ) (m : MachineState) (rank : ℕ) → MakeNoTurn m (replicate k (Step rank))
MakeNoTurn-steps zero m rank = tt
MakeNoTurn-steps (suc k) m rank = (refl, MakeNoTurn-steps k (event m (Step rank)) rank)

pub within-none : (m : MachineState) → IsWithinPhases m []
within-none m = record { count = 0; made = sym (walk-zero m); no_turn = tt }

pub within-steps : (old m : MachineState) (events : List Event) (k n rank : ℕ) → m ≡ after old events → IsSoundMachine m
    → HaveStoppedBelow rank m → k ≤ steps_at m rank n
    → IsWithinPhases old events → IsWithinPhases old (events ++ replicate k (Step rank))
within-steps old m events k n rank here sound below most so_far =
    let there : m ≡ walked so_far.count old = here ∙ ap (after old) so_far.made in
    record {
      count = so_far.count + k;
      made =
          ap₂ (λ xs ys. xs ++ ys) so_far.made (sym (walk-steps k n m rank sound below most) ∙ ap (walk k) there)
          ∙ sym (walk-add so_far.count k old);
      no_turn = MakeNoTurn-append events (replicate k (Step rank)) old so_far.no_turn (MakeNoTurn-steps k (after old events) rank);
    }
