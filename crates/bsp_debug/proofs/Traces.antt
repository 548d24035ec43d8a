-- Runs of one node, taken down.
use Rattle.std.proofs.Common.{◌≡◌, ◌≢◌, ℕ, zero, suc, ◌+◌, ◌-◌, ◌<◌, ◌≤◌, inl, inr, Bool, true, false, List, [], ◌∷◌, length, Option, Some}
use Rattle.std.proofs.Common.{None, Ok, Err, OnErr, refl, sym, ap, ◌∙◌, arith, suc-add}
use Rattle.std.specs.Prelude.{slice_get, ◌==◌, ◌&&◌, if◌then◌else◌}
use Rattle.std.specs.Option.{option_and_then}
use Rattle.std.specs.declared.result.Result.{Result}
use Rattle.std.proofs.lemmas.Bool.{cases_order, false≢true, eqb-true}
use Rattle.node_core.specs.Node.{NodeState}
use Rattle.machine_core.specs.declared.event.Event.TheVariants.{Step}
use Rattle.machine_core.specs.Machine.{MachineState}
use Rattle.machine_core.specs.Events.{runs, is_enabled, event, MayRefuseEvent}
use Rattle.machine_core.proofs.Phased.{enabled_from}
use Rattle.bsp_debug.specs.declared.made.Made.{Made}
use Rattle.bsp_debug.specs.declared.point.Point.{Point}
use Rattle.bsp_debug.specs.declared.point.Point.TheVariants.{Address}
use Rattle.bsp_debug.specs.Debugger.{steps_at}
use Rattle.bsp_debug.specs.Points.{is_set}
use Rattle.bsp_debug.specs.Trace.{Traced, IsTrace, with_steps, after_steps, stepped, EndsBelow, point_at, RunsOn, RunsToPoint, RunsOnTo}
use Rattle.bsp_debug.proofs.Counts.{ticks_at, after_steps-zero, after_steps-suc, steps_at-suc, after_steps-made, enabled-before}
use Rattle.bsp_debug.proofs.Counts.{steps_at-le, steps_at-most, steps_at-all, steps_at-short, ticks_at-steps}
use Rattle.bsp_debug.proofs.Entries.{IsTrace-steps}

-- the last of k + 1 steps
pub after_steps-last : (k : ℕ) (m : MachineState) (rank : ℕ) → after_steps m rank (k + 1) ≡ event (after_steps m rank k) (Step rank)
after_steps-last zero m rank =
    after_steps-suc m rank 0 ∙ after_steps-zero (event m (Step rank)) rank
    ∙ ap (λ (x : MachineState). event x (Step rank)) (sym (after_steps-zero m rank))
after_steps-last (suc k) m rank =
    ap (λ n. after_steps m rank n) (suc-add k 1) ∙ after_steps-suc m rank (k + 1) ∙ after_steps-last k (event m (Step rank)) rank
    ∙ ap (λ (x : MachineState). event x (Step rank)) (sym (after_steps-suc m rank k))

module _ (points : List Point) (m : MachineState) (rank : ℕ) where
  pub RunsOn-none : RunsOn points m rank 0
  RunsOn-none = record { runs = λ j below. absurd (omega (arith, below)); passes = λ j some below. absurd (omega (arith, below)) }

  pub RunsOn-next : (k : ℕ) → RunsOn points m rank k → is_enabled (after_steps m rank k) (Step rank) ≡ true
      → (0 < k → point_at points (after_steps m rank k) rank ≡ None) → RunsOn points m rank (k + 1)
  RunsOn-next k on enabled free = record {
    runs = λ j below. elim (cases_order j k) [
      | inl same ↦ rw same enabled
      | inr other ↦ elim other [
        | inl before ↦ on.runs j before
        | inr past ↦ absurd (omega (arith, below, past))
      ]
    ];
    passes = λ j some below. elim (cases_order j k) [
      | inl same ↦ rw same (free (omega (arith, some, same)))
      | inr other ↦ elim other [
        | inl before ↦ on.passes j some before
        | inr past ↦ absurd (omega (arith, below, past))
      ]
    ];
  }

-- without points a node stands at none
pub no_items : {X : Type 0} (xs : List X) → (length xs == 0) ≡ true → xs ≡ []
no_items [] none = refl
no_items (x ∷ xs) none = absurd (let long = eqb-true (length (x ∷ xs)) 0 none in omega (arith, long))

pub some_items : {X : Type 0} (xs : List X) → (length xs == 0) ≡ false → xs ≢ []
some_items [] some none = false≢true (sym some)
some_items (x ∷ xs) some none = cc

pub point_at-none : (m : MachineState) (rank : ℕ) → point_at [] m rank ≡ None
point_at-none m rank = by (slice_get m.nodes rank)
  where
    test : (running : Bool) (p : Point) → (if running && false then Some p else None) ≡ None
    test true p = refl
    test false p = refl

    by : (o : Option NodeState)
        → option_and_then (λ (n : NodeState). if runs n && is_set [] (Address rank n.hart.pc) then Some (Address rank n.hart.pc) else None)
        o ≡ None
    by None = refl
    by (Some n) = test (runs n) (Address rank n.hart.pc)

some_step : (n : ℕ) (m : MachineState) (rank : ℕ) → 0 < n → is_enabled m (Step rank) ≡ true → 0 < steps_at m rank n
some_step zero m rank some enabled = absurd (omega (arith, some))
some_step (suc n) m rank some enabled = omega (arith, steps_at-suc m rank n enabled)

-- a node that ran by itself
module _ (points : List Point) (m new : MachineState) (rank most : ℕ) (none : points ≡ []) where
  alone : (n : ℕ) → RunsOn points m rank (steps_at m rank n)
  alone n = record {
    runs = λ j below. enabled-before n m rank j below;
    passes = λ j some below. rw none (point_at-none (after_steps m rank j) rank);
  }

  pub alone-ok : new ≡ after_steps m rank most → (count : ℕ) × (new ≡ after_steps m rank count) × RunsToPoint points m rank most count
  alone-ok made = (
    steps_at m rank most,
    made ∙ after_steps-made most m rank,
    record {
      on = alone most;
      few = steps_at-most most m rank;
      some = λ enabled may. some_step most m rank may enabled;
      arrived = λ enabled short. absurd (false≢true (sym (steps_at-short most m rank short) ∙ enabled));
    },
  )

  pub alone-err : (k : ℕ) → k < most → new ≡ after_steps m rank k → MayRefuseEvent new (Step rank)
      → (count : ℕ) × (new ≡ after_steps m rank count) × RunsOnTo points m rank most count
  alone-err k below made may =
      let is : new ≡ after_steps m rank (steps_at m rank k) = made ∙ after_steps-made k m rank in (
        steps_at m rank k,
        is,
        record {
          on = alone k;
          few = omega (arith, below, steps_at-most k m rank);
          runs = ap (λ (x : MachineState). is_enabled x (Step rank)) (sym is) ∙ enabled_from new rank may;
          passes = λ some. rw none (point_at-none (after_steps m rank (steps_at m rank k)) rank);
        },
      )

-- what is taken down of a run
module _ (t now : Traced) (same : t ≡ now) (rank : ℕ) (new : MachineState) (made : List Made) (count : ℕ)
    (counted : count ≡ ticks_at new rank - ticks_at t.machine rank) (noted : made ≡ with_steps t.made rank count) where
  pub count-is : (k : ℕ) → new ≡ after_steps t.machine rank k → count ≡ steps_at now.machine rank k
  count-is k is =
      rw (← same) (counted ∙ ap (λ (x : MachineState). ticks_at x rank - ticks_at t.machine rank) is ∙ ticks_at-steps k t.machine rank)

  pub stepped-is : (k : ℕ) → new ≡ after_steps t.machine rank k
      → record { start = t.start; machine = new; made = made } ≡ stepped rank (steps_at now.machine rank k) now
  stepped-is k is =
      let counts : count ≡ steps_at t.machine rank k =
      counted ∙ ap (λ (x : MachineState). ticks_at x rank - ticks_at t.machine rank) is ∙ ticks_at-steps k t.machine rank in
      let all : new ≡ after_steps t.machine rank (steps_at t.machine rank k) = is ∙ after_steps-made k t.machine rank in
      let notes : made ≡ with_steps t.made rank (steps_at t.machine rank k) = noted ∙ ap (with_steps t.made rank) counts in
      rw (← same) (ap (λ (x : MachineState). record { start = t.start; machine = x; made = made }) all
      ∙ ap (λ (xs : List Made). record t { machine = after_steps t.machine rank (steps_at t.machine rank k); made = xs }) notes)

  pub trace-is : (k : ℕ) → new ≡ after_steps t.machine rank k → IsTrace t → EndsBelow rank now.made
      → IsTrace (record { start = t.start; machine = new; made = made })
  trace-is k is trace ends =
      rw (stepped-is k is) (IsTrace-steps now rank (steps_at now.machine rank k) (rw (← same) trace) ends)

  pub part-is : (most : ℕ) → (k : ℕ) × (k < most) × (new ≡ after_steps t.machine rank k)
      → (k : ℕ) × (k ≤ steps_at now.machine rank most) × (record { start = t.start; machine = new; made = made } ≡ stepped rank k now)
  part-is most part =
      (steps_at now.machine rank part.0, steps_at-le part.0 most now.machine rank (omega (arith, part.1)), stepped-is part.0 part.2)

  -- where all its steps were made
  pub whole-is : (k : ℕ) → new ≡ after_steps t.machine rank k
      → ((j : ℕ) → j < k → is_enabled (after_steps t.machine rank j) (Step rank) ≡ true)
      → record { start = t.start; machine = new; made = made } ≡ stepped rank k now
  whole-is k is enabled =
      let all : steps_at now.machine rank k ≡ k = rw (← same) (steps_at-all k t.machine rank enabled) in
      stepped-is k is ∙ ap (λ n. stepped rank n now) all

  -- how many these are
  pub counts-all : (k : ℕ) → new ≡ after_steps t.machine rank k
      → ((j : ℕ) → j < k → is_enabled (after_steps t.machine rank j) (Step rank) ≡ true) → count ≡ k
  counts-all k is enabled = count-is k is ∙ rw (← same) (steps_at-all k t.machine rank enabled)

  pub to_point-is : (points : List Point) (most : ℕ) → (k : ℕ) × (new ≡ after_steps t.machine rank k)
      × RunsToPoint points t.machine rank most k
      → RunsToPoint points now.machine rank most count × (record { start = t.start; machine = new; made = made } ≡ stepped rank count now)
  to_point-is points most (k, is, r) =
      let all = counts-all k is r.on.runs in
      let whole = whole-is k is r.on.runs in
      (rw all (rw (← same) r), rw all whole)

  pub on_to-is : (points : List Point) (most : ℕ) → (k : ℕ) × (new ≡ after_steps t.machine rank k) × RunsOnTo points t.machine rank most k
      → (k : ℕ) × RunsOnTo points now.machine rank most k × (record { start = t.start; machine = new; made = made } ≡ stepped rank k now)
  on_to-is points most (k, is, r) = (k, rw (← same) r, whole-is k is r.on.runs)

-- both of what is known of a refusal
pub both : {T E : Type 0} (P Q : Type 0) (r : Result T E) → OnErr r P → OnErr r Q → OnErr r (P × Q)
both P Q (Ok x) p q = tt
both P Q (Err e) p q = (p, q)
