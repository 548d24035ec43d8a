-- The rows of a machine's ledger, in both versions.
use Rattle.std.proofs.Common.{ℕ, zero, suc, ◌≤◌, ◌≡◌, ◌++◌, Bool, true, false, List, [], ◌∷◌, Option, Some, None, refl}
use Rattle.std.specs.Prelude.{is_some}
use Rattle.std.specs.Fn.{iterate}
use Rattle.std.proofs.lemmas.List.Elements.{All-push}
use Rattle.cost_ledger.specs.declared.CostRow.{CostRow}
use Rattle.cost_ledger.specs.CostRow.{AreAtMostV1}
use Rattle.machine_core.specs.declared.event.Event.{Event}
use Rattle.machine_core.specs.declared.event.Event.TheVariants.{Step, Turn}
use Rattle.machine_core.specs.declared.outcome.Outcome.{Outcome}
use Rattle.machine_core.specs.Machine.{MachineState}
use Rattle.machine_core.specs.Turn.{cost_row, outcome_of, recorded, decided, turned, with_phases, superstep}
use Rattle.machine_core.specs.Events.{is_enabled, event, after}
use Rattle.machine_core.proofs.Costs.{cost_row-at_most}
use Rattle.machine_core.proofs.Sound.{superstep-over, superstep-open}
use Rattle.machine_core.proofs.Steps.{after-nil, after-cons, event-disabled, event-enabled}

AreAtMostV1-turned : (m : MachineState) → AreAtMostV1 m.ledger → AreAtMostV1 (turned m).ledger
unfolding turned
AreAtMostV1-turned m rows = by (outcome_of m.nodes)
  where
    more : AreAtMostV1 (m.ledger ++ cost_row m ∷ [])
    more = All-push (λ (row : CostRow). row.h ≤ row.h_all) m.ledger (cost_row m) rows (cost_row-at_most m)

    by : (o : Option Outcome) → AreAtMostV1 (decided o (recorded m)).ledger
    by None = more
    by (Some outcome) = more

AreAtMostV1-event : (m : MachineState) (e : Event) → AreAtMostV1 m.ledger → AreAtMostV1 (event m e).ledger
AreAtMostV1-event m e rows = by (is_enabled m e) e refl
  where
    by : (enabled : Bool) (e : Event) → is_enabled m e ≡ enabled → AreAtMostV1 (event m e).ledger
    by false e is = rw (event-disabled m e is) rows
    by true (Step rank) is = rw (event-enabled m (Step rank) is) rows
    by true Turn is = rw (event-enabled m Turn is) (AreAtMostV1-turned m rows)

pub AreAtMostV1-after : (m : MachineState) (events : List Event) → AreAtMostV1 m.ledger → AreAtMostV1 (after m events).ledger
AreAtMostV1-after m [] rows = rw (after-nil m) rows
AreAtMostV1-after m (e ∷ events) rows = rw (after-cons m e events) (AreAtMostV1-after (event m e) events (AreAtMostV1-event m e rows))

AreAtMostV1-superstep : (m : MachineState) → AreAtMostV1 m.ledger → AreAtMostV1 (superstep m).ledger
AreAtMostV1-superstep m rows = by (is_some m.outcome) refl
  where
    by : (over : Bool) → is_some m.outcome ≡ over → AreAtMostV1 (superstep m).ledger
    by true is = rw (superstep-over m is) rows
    by false is = rw (superstep-open m is) (AreAtMostV1-turned (with_phases m) rows)

pub AreAtMostV1-supersteps : (k : ℕ) (m : MachineState) → AreAtMostV1 m.ledger → AreAtMostV1 (iterate superstep k m).ledger
AreAtMostV1-supersteps zero m rows = rows
AreAtMostV1-supersteps (suc k) m rows = AreAtMostV1-supersteps k (superstep m) (AreAtMostV1-superstep m rows)
