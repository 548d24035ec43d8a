-- Nothing that was done is undone.
use Rattle.std.proofs.Common.{◌≡◌, ℕ, zero, suc, ◌≤◌, Bool, true, false, List, [], ◌∷◌, ◌++◌, map, Option, Some, None, refl, ap, ◌∙◌, arith}
use Rattle.std.proofs.Common.{append_assoc}
use Rattle.std.specs.List.{AllZip}
use Rattle.node_core.specs.Node.{NodeState, Extends, with_clock}
use Rattle.node_core.proofs.Sound.{IsLater-local_step}
use Rattle.bsp_exchange.specs.Exchange.{exchanged_node}
use Rattle.machine_core.specs.declared.event.Event.{Event}
use Rattle.machine_core.specs.declared.event.Event.TheVariants.{Step, Turn}
use Rattle.machine_core.specs.declared.outcome.Outcome.{Outcome}
use Rattle.machine_core.specs.Clock.{closed_by}
use Rattle.machine_core.specs.Machine.{MachineState}
use Rattle.machine_core.specs.Turn.{outcome_of, decided, recorded, turned, written, cost_row}
use Rattle.machine_core.specs.Events.{IsOnward, is_enabled, stepped, event, after}
use Rattle.machine_core.proofs.Rows.{stepped-suc}
use Rattle.machine_core.proofs.Steps.{after-nil, after-cons, event-step, event-enabled, event-disabled}

ticks_same : (ns : List NodeState) → AllZip (λ o n. o.ticks ≤ n.ticks) ns ns
ticks_same [] = tt
ticks_same (n ∷ ns) = (omega arith, ticks_same ns)

ticks_then : (xs ys zs : List NodeState) → AllZip (λ o n. o.ticks ≤ n.ticks) xs ys → AllZip (λ o n. o.ticks ≤ n.ticks) ys zs
    → AllZip (λ o n. o.ticks ≤ n.ticks) xs zs
ticks_then [] [] zs a b = b
ticks_then [] (y ∷ ys) zs a b = absurd a
ticks_then (x ∷ xs) [] zs a b = absurd a
ticks_then (x ∷ xs) (y ∷ ys) [] a b = absurd b
ticks_then (x ∷ xs) (y ∷ ys) (z ∷ zs) a b = (omega (arith, a.0, b.0), ticks_then xs ys zs a.1 b.1)

ticks_stepped : (input : List ℕ) (rank : ℕ) (ns : List NodeState) → AllZip (λ o n. o.ticks ≤ n.ticks) ns (stepped input rank ns)
ticks_stepped input rank [] = tt
ticks_stepped input zero (n ∷ rest) = ((IsLater-local_step input n).ticks, ticks_same rest)
ticks_stepped input (suc rank) (n ∷ rest) = rw (stepped-suc input rank n rest) (omega arith, ticks_stepped input rank rest)

ticks_begun : (closed : Option ℕ) (all ns : List NodeState)
    → AllZip (λ o n. o.ticks ≤ n.ticks) ns (map (with_clock closed) (map (exchanged_node all) ns))
ticks_begun closed all [] = tt
ticks_begun closed all (n ∷ rest) = (omega arith, ticks_begun closed all rest)

append_nil : {X : Type 0} (xs : List X) → xs ≡ xs ++ []
append_nil [] = refl
append_nil (x ∷ xs) = ap (λ ys. x ∷ ys) (append_nil xs)

extends_then : {X : Type 0} (xs ys zs : List X) → Extends xs ys → Extends ys zs → Extends xs zs
extends_then xs ys zs a b = (a.0 ++ b.0, b.1 ∙ ap (λ us. us ++ b.0) a.1 ∙ append_assoc xs a.0 b.0)

onward_same : (m : MachineState) → IsOnward m m
onward_same m =
    record {
      settings = refl;
      input = refl;
      ticks = ticks_same m.nodes;
      output = ([], append_nil m.output);
      ledger = ([], append_nil m.ledger);
      exchanges = omega arith;
    }

onward_then : (a b c : MachineState) → IsOnward a b → IsOnward b c → IsOnward a c
onward_then a b c x y = record {
  settings = y.settings ∙ x.settings;
  input = y.input ∙ x.input;
  ticks = ticks_then a.nodes b.nodes c.nodes x.ticks y.ticks;
  output = extends_then a.output b.output c.output x.output y.output;
  ledger = extends_then a.ledger b.ledger c.ledger x.ledger y.ledger;
  exchanges = omega (arith, x.exchanges, y.exchanges);
}

onward_turned : (m : MachineState) → IsOnward m (turned m)
unfolding turned
onward_turned m = by (outcome_of m.nodes)
  where
    by : (o : Option Outcome) → IsOnward m (decided o (recorded m))
    by None =
        record {
          settings = refl;
          input = refl;
          ticks = ticks_begun (closed_by m.settings.clock (recorded m).ledger) m.nodes m.nodes;
          output = (written m.nodes, refl);
          ledger = (cost_row m ∷ [], refl);
          exchanges = omega arith;
        }
    by (Some o) =
        record {
          settings = refl;
          input = refl;
          ticks = ticks_same m.nodes;
          output = (written m.nodes, refl);
          ledger = (cost_row m ∷ [], refl);
          exchanges = omega arith;
        }

onward_event : (m : MachineState) (e : Event) → IsOnward m (event m e)
onward_event m (Step rank) =
    rw (event-step m rank)
    (record {
      settings = refl;
      input = refl;
      ticks = ticks_stepped m.input rank m.nodes;
      output = ([], append_nil m.output);
      ledger = ([], append_nil m.ledger);
      exchanges = omega arith;
    })
onward_event m Turn = by (is_enabled m Turn) refl
  where
    by : (enabled : Bool) → is_enabled m Turn ≡ enabled → IsOnward m (event m Turn)
    by true is = rw (event-enabled m Turn is) (onward_turned m)
    by false is = rw (event-disabled m Turn is) (onward_same m)

pub onward_after : (m : MachineState) (events : List Event) → IsOnward m (after m events)
onward_after m [] = rw (after-nil m) (onward_same m)
onward_after m (e ∷ events) =
    rw (after-cons m e events) (onward_then m (event m e) (after (event m e) events) (onward_event m e) (onward_after (event m e) events))
