-- Runs of one node up to where a function returns.
use Rattle.std.proofs.Common.{◌≡◌, ℕ, ◌+◌, ◌-◌, ◌<◌, inl, inr, true, false, List, arith}
use Rattle.std.proofs.lemmas.Bool.{cases_order}
use Rattle.machine_core.specs.declared.event.Event.TheVariants.{Step}
use Rattle.machine_core.specs.Machine.{MachineState}
use Rattle.machine_core.specs.Events.{is_enabled}
use Rattle.bsp_debug.specs.declared.made.Made.{Made}
use Rattle.bsp_debug.specs.declared.point.Point.{Point}
use Rattle.bsp_debug.specs.Returns.{has_arrived, GoesOn, HasReturned, IsReturning}
use Rattle.bsp_debug.specs.Trace.{Traced, with_steps, after_steps, stepped}
use Rattle.bsp_debug.proofs.Counts.{ticks_at}
use Rattle.bsp_debug.proofs.Traces.{counts-all, whole-is}

module _ (points : List Point) (m : MachineState) (rank addr sp : ℕ) where
  pub GoesOn-none : GoesOn points m rank addr sp 0
  GoesOn-none = record { runs = λ j below. absurd (omega (arith, below)); passes = λ j some below. absurd (omega (arith, below)) }

  pub GoesOn-next : (k : ℕ) → GoesOn points m rank addr sp k → is_enabled (after_steps m rank k) (Step rank) ≡ true
      → (0 < k → has_arrived points rank addr sp (after_steps m rank k) ≡ false) → GoesOn points m rank addr sp (k + 1)
  GoesOn-next k on enabled free = record {
    runs = λ j below. elim (cases_order j k) [
      | inl same ↦ rw same enabled
      | inr other ↦ elim other [
        | inl before ↦ on.runs j before
        | inr past ↦ absurd (omega (arith, below, past))
      ]
    ];
    passes = λ j some below. elim (cases_order j k) [
      | inl same ↦ rw same (free (omega (arith, some, same)))
      | inr other ↦ elim other [
        | inl before ↦ on.passes j some before
        | inr past ↦ absurd (omega (arith, below, past))
      ]
    ];
  }

-- what is taken down of such a run
module _ (t now : Traced) (same : t ≡ now) (rank : ℕ) (new : MachineState) (made : List Made) (count : ℕ)
    (counted : count ≡ ticks_at new rank - ticks_at t.machine rank) (noted : made ≡ with_steps t.made rank count) where
  pub returned-is : (points : List Point) (addr sp : ℕ)
      → (k : ℕ) × (new ≡ after_steps t.machine rank k) × HasReturned points t.machine rank addr sp k
      → HasReturned points now.machine rank addr sp count
      × (record { start = t.start; machine = new; made = made } ≡ stepped rank count now)
  returned-is points addr sp (k, is, returned) =
      let all = counts-all t now same rank new made count counted noted k is returned.on.runs in
      let whole = whole-is t now same rank new made count counted noted k is returned.on.runs in
      (rw all (rw (← same) returned), rw all whole)

  pub returning-is : (points : List Point) (addr sp : ℕ)
      → (k : ℕ) × (new ≡ after_steps t.machine rank k) × IsReturning points t.machine rank addr sp k
      → (k : ℕ) × IsReturning points now.machine rank addr sp k
      × (record { start = t.start; machine = new; made = made } ≡ stepped rank k now)
  returning-is points addr sp (k, is, returning) =
      (k, rw (← same) returning, whole-is t now same rank new made count counted noted k is returning.on.runs)
