-- The costs keep to the ledger's bounds, and with the row landed the machine is the one that the turn leads to, and sound.
use Rattle.std.proofs.Common.{◌≡◌, ℕ, List, ◌+◌, ◌++◌, [], ◌∷◌, length, map, Option, sym, ap, ap₂, subst, ◌∙◌, arith}
use mir.Syntax.{w64}
use mir.Val.{Fits}
use Rattle.std.proofs.lemmas.List.{length-map, with_items_is}
use Rattle.node_core.specs.Node.{NodeState, PreparedNode, with_clock}
use Rattle.bsp_exchange.specs.Exchange.{states, exchanged, exchanged_node}
use Rattle.bsp_exchange.proofs.PartOrder.{landed_whole}
use Rattle.cost_ledger.specs.CostRow.{PreparedRows}
use Rattle.cost_ledger.specs.declared.CostRow.{CostRow}
use Rattle.machine_core.specs.declared.event.Event.TheVariants.{Turn}
use Rattle.machine_core.specs.Clock.{closed_by}
use Rattle.machine_core.specs.Events.{is_enabled}
use Rattle.machine_core.specs.ExchangingMachine.{kept}
use Rattle.machine_core.specs.Landing.{row_landed}
use Rattle.machine_core.specs.Machine.{MachineState}
use Rattle.machine_core.specs.Sound.{IsSoundMachine}
use Rattle.machine_core.specs.Turn.{turned}
use Rattle.machine_core.proofs.Clocks.{as_many_nodes}
use Rattle.machine_core.proofs.Steps.{event-enabled}
use Rattle.machine_core.proofs.Turns.{turned-exchanged, closed-known, no_outcome, bounds, rows-lt, exchanges-fit, length-started}
use Rattle.machine_core.proofs.Turns.{IsSoundMachine-turn}
use Rattle.machine_core.proofs.machine.exchanging.ExchangingMachine.finish.Goals as goal

pub add_prepared-requires-clause-work : goal.add_prepared-requires-clause-work
add_prepared-requires-clause-work g c =
    let waits = c.self.invariant.0 in
    (bounds c.self.inside.before.value c.self.inside.cost waits.sound waits.costs).work

pub add_prepared-requires-clause-relation : goal.add_prepared-requires-clause-relation
add_prepared-requires-clause-relation g c =
    let waits = c.self.invariant.0 in
    (bounds c.self.inside.before.value c.self.inside.cost waits.sound waits.costs).relation

pub add_prepared-requires-clause-whole_relation : goal.add_prepared-requires-clause-whole_relation
add_prepared-requires-clause-whole_relation g c =
    let waits = c.self.invariant.0 in
    (bounds c.self.inside.before.value c.self.inside.cost waits.sound waits.costs).whole_relation

pub add_prepared-requires-clause-messages : goal.add_prepared-requires-clause-messages
add_prepared-requires-clause-messages g c =
    let waits = c.self.invariant.0 in
    (bounds c.self.inside.before.value c.self.inside.cost waits.sound waits.costs).messages

pub add_prepared-requires-clause-few : goal.add_prepared-requires-clause-few
add_prepared-requires-clause-few g c =
    let waits = c.self.invariant.0 in
    let rows = ap (λ (x : MachineState). x.ledger) waits.recorded in
    rw rows (rows-lt c.self.inside.before.value waits.sound)

pub note_ticks-requires : goal.note_ticks-requires
note_ticks-requires g c =
    let b = c.self.inside.before.value in
    let waits = c.self.invariant.0 in
    let back : states c.args.row.items ≡ exchanged b.nodes =
    c.requires ∙ ap (λ (x : MachineState). row_landed x.nodes) (sym c.self.view_is) ∙ landed_whole b.nodes waits.exchanges in
    let long : length c.args.row.items ≡ length b.nodes =
    sym (length-map c.args.row.items (λ (p : PreparedNode). p.node)) ∙ ap length back ∙ length-map b.nodes (exchanged_node b.nodes) in
    ap length c.deref_mut.ensures.value
    ∙ ap (λ (x : MachineState). length x.started) waits.recorded
    ∙ length-started b waits.sound
    ∙ sym long
    ∙ sym (ap length c.deref-2.ensures.value)

pub overflow_add-result : goal.overflow_add-result
overflow_add-result g c =
    let b = c.self.inside.before.value in
    let waits = c.self.invariant.0 in
    subst (λ (k : ℕ). Fits w64 (k + 1)) (sym (ap (λ (x : MachineState). x.exchanges) waits.recorded)) (exchanges-fit b waits.sound)

pub invariant_of-result : goal.invariant_of-result
invariant_of-result g c =
    let b = c.self.inside.before.value in
    let waits = c.self.invariant.0 in
    let back : states c.args.row.items ≡ exchanged b.nodes =
    c.requires ∙ ap (λ (x : MachineState). row_landed x.nodes) (sym c.self.view_is) ∙ landed_whole b.nodes waits.exchanges in
    let long : length c.args.row.items ≡ length c.set_clocks.new.nodes =
    as_many_nodes c.args.row.items c.set_clocks.new.nodes c.closed_with-closed.result
    (c.set_clocks.ensures
    ∙ ap (λ (ps : List PreparedNode). map (with_clock c.closed_with-closed.result) (states ps)) c.deref_mut-2.ensures.value) in
    let closed =
    c.closed_with-closed.ensures
    ∙ ap₂ (λ (x : MachineState) (r : CostRow). closed_by x.settings.clock (x.ledger ++ r ∷ [])) waits.recorded waits.costs in
    let nodes = ap states (with_items_is c.args.row c.set_clocks.new.nodes (omega (arith, long, c.args.row.ok.0))) ∙ c.set_clocks.ensures
    ∙ ap (λ (ps : List PreparedNode). map (with_clock c.closed_with-closed.result) (states ps)) c.deref_mut-2.ensures.value
    ∙ ap₂ (λ (k : Option ℕ) (ns : List NodeState). map (with_clock k) ns) closed back in
    let started =
    with_items_is c.self.inside.started c.note_ticks.new.started (omega arith) ∙ c.note_ticks.ensures
    ∙ ap (λ (ps : List PreparedNode). map (λ (n : NodeState). n.ticks) (states ps)) c.deref-2.ensures.value
    ∙ ap (λ (ns : List NodeState). map (λ (n : NodeState). n.ticks) ns) back in
    let ledger =
    ap (λ (x : PreparedRows). x.rows) c.add_prepared.ensures ∙ ap (λ (r : CostRow). c.self.inside.ledger.rows ++ r ∷ []) waits.costs in
    subst IsSoundMachine
    (sym (turned-exchanged b (kept c.self.inside) _ _ c.add_prepared.new.self.rows waits.none waits.recorded nodes started ledger))
    (IsSoundMachine-turn b waits.sound waits.enabled)

pub returns-clause-turned : goal.returns-clause-turned
returns-clause-turned g c =
    let b = c.self.inside.before.value in
    let waits = c.self.invariant.0 in
    let back : states c.args.row.items ≡ exchanged b.nodes =
    c.requires ∙ ap (λ (x : MachineState). row_landed x.nodes) (sym c.self.view_is) ∙ landed_whole b.nodes waits.exchanges in
    let long : length c.args.row.items ≡ length c.set_clocks.new.nodes =
    as_many_nodes c.args.row.items c.set_clocks.new.nodes c.closed_with-closed.result
    (c.set_clocks.ensures
    ∙ ap (λ (ps : List PreparedNode). map (with_clock c.closed_with-closed.result) (states ps)) c.deref_mut-2.ensures.value) in
    let closed =
    c.closed_with-closed.ensures
    ∙ ap₂ (λ (x : MachineState) (r : CostRow). closed_by x.settings.clock (x.ledger ++ r ∷ [])) waits.recorded waits.costs in
    let nodes = ap states (with_items_is c.args.row c.set_clocks.new.nodes (omega (arith, long, c.args.row.ok.0))) ∙ c.set_clocks.ensures
    ∙ ap (λ (ps : List PreparedNode). map (with_clock c.closed_with-closed.result) (states ps)) c.deref_mut-2.ensures.value
    ∙ ap₂ (λ (k : Option ℕ) (ns : List NodeState). map (with_clock k) ns) closed back in
    let started =
    with_items_is c.self.inside.started c.note_ticks.new.started (omega arith) ∙ c.note_ticks.ensures
    ∙ ap (λ (ps : List PreparedNode). map (λ (n : NodeState). n.ticks) (states ps)) c.deref-2.ensures.value
    ∙ ap (λ (ns : List NodeState). map (λ (n : NodeState). n.ticks) ns) back in
    let ledger =
    ap (λ (x : PreparedRows). x.rows) c.add_prepared.ensures ∙ ap (λ (r : CostRow). c.self.inside.ledger.rows ++ r ∷ []) waits.costs in
    turned-exchanged b (kept c.self.inside) _ _ c.add_prepared.new.self.rows waits.none waits.recorded nodes started ledger
    ∙ ap turned c.self.view_is
    ∙ sym (event-enabled c.args.self Turn (ap (λ (x : MachineState). is_enabled x Turn) (sym c.self.view_is) ∙ waits.enabled))

pub closed_with-closed-requires-clause-closed : goal.closed_with-closed-requires-clause-closed
closed_with-closed-requires-clause-closed g c =
    let b = c.self.inside.before.value in
    let waits = c.self.invariant.0 in
    let back : states c.args.row.items ≡ exchanged b.nodes =
    c.requires ∙ ap (λ (x : MachineState). row_landed x.nodes) (sym c.self.view_is) ∙ landed_whole b.nodes waits.exchanges in
    closed-known b (kept c.self.inside) (states c.deref.result.now) waits.sound (no_outcome b waits.sound waits.enabled) waits.recorded
    (ap states c.deref.ensures.value ∙ back)

pub closed_with-closed-requires-clause-bounded : goal.closed_with-closed-requires-clause-bounded
closed_with-closed-requires-clause-bounded g c =
    let waits = c.self.invariant.0 in
    bounds c.self.inside.before.value c.self.inside.cost waits.sound waits.costs

pub closed_with-closed-requires-clause-few : goal.closed_with-closed-requires-clause-few
closed_with-closed-requires-clause-few g c =
    let waits = c.self.invariant.0 in
    let rows = ap (λ (x : MachineState). x.ledger) waits.recorded in
    rw rows (rows-lt c.self.inside.before.value waits.sound)
