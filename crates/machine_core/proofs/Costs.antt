-- The cost of a superstep keeps to the bounds of the ledger.
use Rattle.std.proofs.Common.{ℕ, ◌-◌, ◌^◌, ◌≤◌, Bool, true, false, List, [], ◌∷◌, length, All, arith}
use Rattle.std.specs.Prelude.{zip, if◌then◌else◌}
use Rattle.std.proofs.lemmas.List.Elements.{All-nil, All-cons, All-head, All-map, All-tail, All-weaker}
use Rattle.node_core.specs.Hart.{IsHart, max_nodes}
use Rattle.node_core.specs.Node.{NodeState}
use Rattle.bsp_exchange.specs.Traffic.{h_of, h_all_of, messages_of, traffic_of}
use Rattle.bsp_exchange.proofs.Bounds.{fold-max-le, traffic_bounded}
use Rattle.bsp_exchange.proofs.Readings.{h_at_most}
use Rattle.cost_ledger.specs.CostRow.{IsBounded}
use Rattle.machine_core.specs.Machine.{MachineState}
use Rattle.machine_core.specs.Sound.{IsNodeOf, IsSoundMachine}
use Rattle.machine_core.specs.Turn.{makes_exchange, work, no_traffic, cost_row}
use Rattle.machine_core.proofs.Sound.{length-nodes}
use Rattle.machine_core.proofs.Starts.{few_in_range}

-- the ticks that nodes made are some of those that they may make
ticks-all : (limit : ℕ) (nodes : List NodeState) (started : List ℕ) → All (λ n. n.ticks ≤ limit) nodes
    → All (λ (at : NodeState × ℕ). at.0.ticks - at.1 ≤ limit) (zip nodes started)
ticks-all limit [] started within = All-nil _
ticks-all limit (n ∷ rest) [] within = All-nil _
ticks-all limit (n ∷ rest) (t ∷ started) within =
    let here = All-head (λ (n : NodeState). n.ticks ≤ limit) n rest within in
    All-cons (λ (at : NodeState × ℕ). at.0.ticks - at.1 ≤ limit) (n, t) (zip rest started) (omega arith)
    (ticks-all limit rest started (All-tail (λ (n : NodeState). n.ticks ≤ limit) n rest within))

module _ (m : MachineState) (sound : IsSoundMachine m) where
  work-le : work m ≤ m.settings.limit
  work-le =
      let each : All (λ n. n.ticks ≤ m.settings.limit) m.nodes =
      All-weaker (IsNodeOf m.settings) (λ n. n.ticks ≤ m.settings.limit)
      (λ n of. omega (arith, of.limit, of.sound.node.within)) m.nodes sound.nodes in
      fold-max-le m.settings.limit 0 _ (omega arith)
      (All-map (λ k. k ≤ m.settings.limit) (λ (at : NodeState × ℕ). at.0.ticks - at.1) (zip m.nodes m.started)
      (ticks-all m.settings.limit m.nodes m.started each))

  few-nodes : length m.nodes ≤ max_nodes
  few-nodes = omega (arith, few_in_range m.settings sound.settings, length-nodes m sound)

  moved : (h_of m.nodes ≤ h_all_of m.nodes) × (h_all_of m.nodes ≤ 2 ^ 46) × (messages_of m.nodes ≤ 2 ^ 40)
  moved =
      traffic_bounded m.nodes few-nodes
      (All-weaker (IsNodeOf m.settings) (λ (n : NodeState). IsHart n.hart) (λ n of. of.sound.hart) m.nodes sound.nodes)

  bounded-by : (exchanged : Bool) → IsBounded (record {
    w = work m;
    h = (if exchanged then traffic_of m.nodes else no_traffic).h;
    h_all = (if exchanged then traffic_of m.nodes else no_traffic).h_all;
    messages = (if exchanged then traffic_of m.nodes else no_traffic).messages;
    turned = exchanged;
  })
  bounded-by true = record {
    work = omega (arith, work-le, sound.settings.limit);
    relation = omega (arith, moved.0, moved.1);
    whole_relation = omega (arith, moved.1);
    messages = omega (arith, moved.2);
  }
  bounded-by false =
      record {
        work = omega (arith, work-le, sound.settings.limit);
        relation = omega arith;
        whole_relation = omega arith;
        messages = omega arith;
      }

pub IsBounded-cost_row : (m : MachineState) → IsSoundMachine m → IsBounded (cost_row m)
IsBounded-cost_row m sound = bounded-by m sound (makes_exchange m.nodes)

-- its h is no more than in the first version of the ledger
pub cost_row-at_most : (m : MachineState) → (cost_row m).h ≤ (cost_row m).h_all
cost_row-at_most m = by (makes_exchange m.nodes)
  where
    by : (exchanged : Bool)
        → (if exchanged then traffic_of m.nodes else no_traffic).h ≤ (if exchanged then traffic_of m.nodes else no_traffic).h_all
    by true = h_at_most m.nodes
    by false = omega arith
