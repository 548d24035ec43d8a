-- A machine has few nodes, each of which is among them; and the table is empty before their requests are added.
use Rattle.std.proofs.Common.{◌≡◌, ◌<◌, ◌+◌, ◌*◌, ℕ, List, length, slice_index, arith, ap, sym, subst, ◌∙◌}
use Rattle.std.specs.Prelude.{sum_by}
use Rattle.std.proofs.lemmas.List.Elements.{All-same}
use Rattle.std.proofs.lemmas.List.{with_items_is}
use Rattle.node_core.specs.Node.{NodeState}
use Rattle.bsp_exchange.specs.Exchange.{states}
use Rattle.bsp_profile.specs.Tally.{IsNodeAmong, Tells, added_by}
use Rattle.bsp_profile.proofs.Machines.{among, few_nodes, length-row, tells_made, tells_none}
use Rattle.bsp_profile.proofs.tally.Tally.of.Goals.{then-makes_exchange, else-makes_exchange}
use Rattle.bsp_profile.proofs.tally.Tally.of.Goals as goal

pub empty_cells-requires : goal.empty_cells-requires
empty_cells-requires g c =
    let m = c.args.machine.now in
    omega (arith, length-row c.nodes-nodes.result.now m.nodes c.nodes-nodes.ensures, few_nodes m c.requires.sound)

pub add_nodes-requires-clause-few : goal.add_nodes-requires-clause-few
add_nodes-requires-clause-few g c =
    let m = c.args.machine.now in
    omega (arith, length-row c.nodes-nodes.result.now m.nodes c.nodes-nodes.ensures, few_nodes m c.requires.sound)

pub add_nodes-requires-clause-nodes : goal.add_nodes-requires-clause-nodes
add_nodes-requires-clause-nodes g c =
    let m = c.args.machine.now in
    let ps = c.nodes-nodes.result.now in
    All-same (IsNodeAmong (length ps)) (states ps) m.nodes c.nodes-nodes.ensures
    (among m (length ps) c.requires.sound (length-row ps m.nodes c.nodes-nodes.ensures))

pub returns : goal.returns
returns g c =
    let m = c.args.machine.now in
    let ps = c.nodes-nodes.result.now in
    let sound = c.requires.sound in
    let counts = length-row ps m.nodes c.nodes-nodes.ensures in
    elim c.if-makes_exchange.branch [
      | then-makes_exchange w ↦
          let new = w.add_nodes.new.cells in
          let same : length new ≡ length w.deref_mut.result.now = w.add_nodes.auto.cells in
          let old : length w.deref_mut.result.now ≡ length c.in_ok-cells.cells.items = ap length w.deref_mut.ensures.value in
          let items : c.if-makes_exchange.cells.items ≡ new = ap (λ v. v.items) w.cells-is ∙ with_items_is c.in_ok-cells.cells new
          (same ∙ w.deref_mut.ensures.len) in
          let size : length new ≡ (length ps + 1) * length ps = same ∙ old ∙ c.in_ok-cells.ensures.size in
          let each : (k : ℕ) → k < length new → slice_index new k ≡ sum_by (added_by (length ps) k) m.nodes = λ k within.
          w.add_nodes.ensures.cells k (omega (arith, same, within)) ∙ ap
          (λ (ns : List NodeState). sum_by (added_by (length ps) k) ns) c.nodes-nodes.ensures in
          subst (Tells m.nodes (length ps)) (sym items) (tells_made m (length ps) new sound counts size
          (sym c.makes_exchange.ensures ∙ w.if-makes_exchange.true) each w.add_nodes.ensures.bounded)
      | else-makes_exchange w ↦
          rw w.cells-is (tells_none m (length ps) c.in_ok-cells.cells.items sound counts c.in_ok-cells.ensures.size
          (sym c.makes_exchange.ensures ∙ w.if-makes_exchange.false) c.in_ok-cells.ensures.empty)
    ]
