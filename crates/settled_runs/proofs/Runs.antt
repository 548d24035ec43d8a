-- Supersteps in any order that is allowed, one after another.
use Rattle.std.proofs.Common.{◌≡◌, ℕ, zero, suc, ◌+◌, Bool, true, false, cond, List, map, refl, sym, ap, subst, arith, Option, Some, None}
use Rattle.std.specs.Prelude.{is_some, is_none}
use Rattle.std.specs.Fn.{iterate}
use Rattle.std.proofs.lemmas.List.Sorted.{IsPermutation-refl}
use Rattle.node_core.specs.Node.{NodeState}
use Rattle.bsp_exchange.specs.Landings.{Landing, landings}
use Rattle.contested_bytes.specs.Contested.{AreSettled, IsAllowedOrder}
use Rattle.contested_bytes.proofs.Orders.{settled_row}
use Rattle.machine_core.specs.declared.outcome.Outcome.{Outcome}
use Rattle.machine_core.specs.Clock.{with_clocks}
use Rattle.machine_core.specs.Machine.{MachineState}
use Rattle.machine_core.specs.Turn.{outcome_of, decided, recorded, turned, with_phases, superstep, end_of}
use Rattle.settled_runs.specs.Orders.{decided_in, turned_in, superstep_in, next_landings, RunsTo, IsSettledSuperstep, IsSettledRun}

decided-same : (order : List Landing) (m : MachineState) (o : Option Outcome) → IsAllowedOrder (landings m.nodes) order
    → (is_none o ≡ true → AreSettled (landings m.nodes)) → decided_in order o m ≡ decided o m
decided-same order m (Some end) allowed settled = refl
decided-same order m None allowed settled =
    ap (λ (nodes : List NodeState). record m {
      nodes = with_clocks m.settings.clock m.ledger nodes;
      started = map (λ (n : NodeState). n.ticks) m.nodes;
      exchanges = m.exchanges + 1;
    })
    (settled_row m.nodes order (landings m.nodes) (settled refl) allowed (IsPermutation-refl (landings m.nodes)))

turned-same : (order : List Landing) (m : MachineState) → IsAllowedOrder (landings m.nodes) order
    → (is_none (outcome_of m.nodes) ≡ true → AreSettled (landings m.nodes)) → turned_in order m ≡ turned m
unfolding turned
turned-same order m allowed settled = decided-same order (recorded m) (outcome_of m.nodes) allowed settled

superstep-at : (order : List Landing) (m : MachineState) (over : Bool) → is_some m.outcome ≡ over → IsAllowedOrder (next_landings m) order
    → IsSettledSuperstep m → cond over m (turned_in order (with_phases m)) ≡ cond over m (turned (with_phases m))
superstep-at order m true is allowed settled = refl
superstep-at order m false is allowed settled = turned-same order (with_phases m) allowed (settled is)

superstep-same : (order : List Landing) (m : MachineState) → IsAllowedOrder (next_landings m) order → IsSettledSuperstep m
    → superstep_in order m ≡ superstep m
unfolding superstep
superstep-same order m allowed settled = superstep-at order m (is_some m.outcome) refl allowed settled

pub run-same : (k : ℕ) (m n : MachineState) → IsSettledRun k m → RunsTo k m n → n ≡ iterate superstep k m
run-same zero m n settled run = run
run-same (suc k) m n settled run =
    let same : superstep_in run.0 m ≡ superstep m = superstep-same run.0 m run.1 (settled 0 (omega arith)) in
    run-same k (superstep m) n (λ j before. settled (suc j) (omega (arith, before))) (subst (λ (s : MachineState). RunsTo k s n) same run.2)

pub last-same : (m n : MachineState) → IsSettledRun (m.settings.limit + 1) m → RunsTo (m.settings.limit + 1) m n → n ≡ end_of m
unfolding end_of
last-same m n settled run = run-same (m.settings.limit + 1) m n settled run

-- the machine's own order
own-decided : (m : MachineState) (o : Option Outcome) → decided_in (landings m.nodes) o m ≡ decided o m
own-decided m (Some end) = refl
own-decided m None = refl

own-turned : (m : MachineState) → turned_in (landings m.nodes) m ≡ turned m
unfolding turned
own-turned m = own-decided (recorded m) (outcome_of m.nodes)

pub own-superstep : (m : MachineState) → superstep_in (next_landings m) m ≡ superstep m
unfolding superstep
own-superstep m = ap (λ (next : MachineState). cond (is_some m.outcome) m next) (own-turned (with_phases m))

pub run-allowed : (k : ℕ) (m : MachineState) → RunsTo k m (iterate superstep k m)
run-allowed zero m = refl
run-allowed (suc k) m = (
  next_landings m,
  IsPermutation-refl (next_landings m),
  subst (λ (s : MachineState). RunsTo k s (iterate superstep k (superstep m)))
      (sym (own-superstep m)) (run-allowed k (superstep m)),
)
