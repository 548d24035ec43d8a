-- A turn that begins has its outcome at once, hands out its exchange, or is refused and leaves the machine as it was.
use Rattle.std.proofs.Common.{◌≡◌, ℕ, ◌<◌, ◌^◌, ◌++◌, [], ◌∷◌, List, length, true, refl, sym, ap, ap₂, subst, ◌∙◌, arith}
use Rattle.std.specs.List.{AllZip}
use Rattle.std.proofs.lemmas.List.{length-map}
use Rattle.node_core.specs.Node.{PreparedNode}
use Rattle.bsp_exchange.specs.Exchange.{AreAtSync, states}
use Rattle.bsp_exchange.specs.Parts.{CanExchange, CanPrepare, parts_of}
use Rattle.bsp_exchange.specs.Traffic.{traffic_of}
use Rattle.cost_ledger.specs.CostRow.{PreparedRows}
use Rattle.cost_ledger.specs.declared.CostRow.{CostRow}
use Rattle.machine_core.specs.declared.event.Event.TheVariants.{Turn}
use Rattle.machine_core.specs.Events.{is_enabled}
use Rattle.machine_core.specs.Inside.{machine_view}
use Rattle.machine_core.specs.Machine.{MachineState}
use Rattle.machine_core.specs.Sound.{IsSoundMachine}
use Rattle.machine_core.specs.Turn.{lowest, was_stopped, has_ended, outcome_of, written, work, most_ticks, turned}
use Rattle.machine_core.proofs.Sound.{AreAtSync-from, turn_stopped}
use Rattle.machine_core.proofs.Steps.{event-enabled}
use Rattle.machine_core.proofs.Turns.{cost-over, cost-exchanged, turned-over, as_before, awaits, bounds, rows-lt, length-started}
use Rattle.machine_core.proofs.Turns.{IsSoundMachine-turn}
use Rattle.machine_core.proofs.machine.Machine.begin_enabled.Goals as goal

none_fits : (n : ℕ) → n ≡ 0 → n < 2 ^ 48
none_fits n is = omega (arith, is)

pub work-w-requires : goal.work-w-requires
work-w-requires g c =
    let m = machine_view c.self.inside in
    ap length c.deref-2.ensures.value ∙ length-started m c.self.invariant
    ∙ length-map c.self.inside.nodes.items (λ (p : PreparedNode). p.node) ∙ sym (ap length c.deref.ensures.value)

pub begin-requires : goal.begin-requires
begin-requires g c =
    let m = machine_view c.self.inside in
    let enabled : is_enabled m Turn ≡ true = ap (λ (x : MachineState). is_enabled x Turn) c.self.view_is ∙ c.requires in
    let same : states c.deref-3.result.now ≡ m.nodes = ap states c.deref-3.ensures.value in
    λ on open_yet. subst AreAtSync (sym same)
    (AreAtSync-from m c.self.invariant (turn_stopped m enabled) (ap (lowest was_stopped) (sym same) ∙ on)
    (ap (lowest has_ended) (sym same) ∙ open_yet))

pub invariant_of-self : goal.invariant_of-self
invariant_of-self g c =
    let m = machine_view c.self.inside in
    subst IsSoundMachine
    (sym (as_before m _ c.begin.new.output.items c.begin.new.ledger.rows refl c.in-Err.ensures.kept c.begin.ensures.rows))
    c.self.invariant

pub returns-in-Err : goal.returns-in-Err
returns-in-Err g c =
    let m = machine_view c.self.inside in (
      record {
        ok = tt;
        enabled = tt;
        err =
            as_before m _ c.begin.new.output.items c.begin.new.ledger.rows refl c.in-Err.ensures.kept c.begin.ensures.rows ∙ c.self.view_is;
        refuses = c.requires;
      },
      tt,
    )

pub add_prepared-requires-clause-work : goal.add_prepared-requires-clause-work
add_prepared-requires-clause-work g c =
    let m = machine_view c.self.inside in
    let same : states c.deref-3.result.now ≡ m.nodes = ap states c.deref-3.ensures.value in
    let w_is : c.work-w.result ≡ work m = c.work-w.ensures ∙ ap₂ most_ticks (ap states c.deref.ensures.value) c.deref-2.ensures.value in
    let closes = rw c.in-Ok-Over.field-0-is at c.in-Ok-Over.ensures.closes in
    let is = ap outcome_of (sym same) ∙ closes in
    (bounds m c.last_row.result c.self.invariant (c.last_row.ensures ∙ cost-over m c.in-Ok-Over.outcome c.work-w.result is w_is)).work

pub add_prepared-requires-clause-few : goal.add_prepared-requires-clause-few
add_prepared-requires-clause-few g c = rw c.begin.ensures.rows (rows-lt (machine_view c.self.inside) c.self.invariant)

pub invariant_of-self-in-Ok-Over : goal.invariant_of-self-in-Ok-Over
invariant_of-self-in-Ok-Over g c =
    let m = machine_view c.self.inside in
    let enabled : is_enabled m Turn ≡ true = ap (λ (x : MachineState). is_enabled x Turn) c.self.view_is ∙ c.requires in
    let same : states c.deref-3.result.now ≡ m.nodes = ap states c.deref-3.ensures.value in
    let w_is : c.work-w.result ≡ work m = c.work-w.ensures ∙ ap₂ most_ticks (ap states c.deref.ensures.value) c.deref-2.ensures.value in
    let closes = rw c.in-Ok-Over.field-0-is at c.in-Ok-Over.ensures.closes in
    let is = ap outcome_of (sym same) ∙ closes in
    let output_is =
    c.in-Ok-Over.ensures.written ∙ ap (λ (ps : List PreparedNode). m.output ++ written (states ps)) c.deref-3.ensures.value in
    let ledger_is =
    ap (λ (x : PreparedRows). x.rows) c.add_prepared.ensures
    ∙ ap₂ (λ (rs : List CostRow) (r : CostRow). rs ++ r ∷ []) c.begin.ensures.rows
    (c.last_row.ensures ∙ cost-over m c.in-Ok-Over.outcome c.work-w.result is w_is) in
    subst IsSoundMachine
    (sym (turned-over m c.in-Ok-Over.outcome _ c.begin.new.output.items c.add_prepared.new.self.rows is refl output_is ledger_is))
    (IsSoundMachine-turn m c.self.invariant enabled)

pub returns-in-Ok-Over : goal.returns-in-Ok-Over
returns-in-Ok-Over g c =
    let m = machine_view c.self.inside in
    let same : states c.deref-3.result.now ≡ m.nodes = ap states c.deref-3.ensures.value in
    let w_is : c.work-w.result ≡ work m = c.work-w.ensures ∙ ap₂ most_ticks (ap states c.deref.ensures.value) c.deref-2.ensures.value in
    let closes = rw c.in-Ok-Over.field-0-is at c.in-Ok-Over.ensures.closes in
    let is = ap outcome_of (sym same) ∙ closes in
    let output_is =
    c.in-Ok-Over.ensures.written ∙ ap (λ (ps : List PreparedNode). m.output ++ written (states ps)) c.deref-3.ensures.value in
    let ledger_is =
    ap (λ (x : PreparedRows). x.rows) c.add_prepared.ensures
    ∙ ap₂ (λ (rs : List CostRow) (r : CostRow). rs ++ r ∷ []) c.begin.ensures.rows
    (c.last_row.ensures ∙ cost-over m c.in-Ok-Over.outcome c.work-w.result is w_is) in (
      record {
        ok = turned-over m c.in-Ok-Over.outcome _ c.begin.new.output.items c.add_prepared.new.self.rows is refl output_is ledger_is
            ∙ ap turned c.self.view_is ∙ sym (event-enabled c.args.self Turn c.requires);
        enabled = sym c.requires;
        err = tt;
        refuses = tt;
      },
      λ made. refl,
    )

pub invariant_of-exchanging : goal.invariant_of-exchanging
invariant_of-exchanging g c =
    let m = machine_view c.self.inside in
    let enabled : is_enabled m Turn ≡ true = ap (λ (x : MachineState). is_enabled x Turn) c.self.view_is ∙ c.requires in
    let same : states c.deref-3.result.now ≡ m.nodes = ap states c.deref-3.ensures.value in
    let w_is : c.work-w.result ≡ work m = c.work-w.ensures ∙ ap₂ most_ticks (ap states c.deref.ensures.value) c.deref-2.ensures.value in
    let drafted = rw c.in-Ok-Drafted.field-0-is at c.in-Ok-Drafted.ensures.closes in
    let is = ap outcome_of (sym same) ∙ drafted.none in
    let output_is =
    c.in-Ok-Drafted.ensures.written ∙ ap (λ (ps : List PreparedNode). m.output ++ written (states ps)) c.deref-3.ensures.value in (
      awaits m c.of-before.result.value c.begin.new.output.items c.begin.new.ledger.rows _
          (c.self.view_is ∙ sym c.of-before.ensures) c.self.invariant enabled is
          (subst CanExchange same drafted.exchanges) output_is c.begin.ensures.rows
          (cost-exchanged m c.work-w.result _ is w_is (drafted.traffic ∙ ap traffic_of same)),
      c.in-Ok-Drafted.ensures.ready,
      c.len-output_before.ensures ∙ c.self.inside.output.ok.0
          ∙ ap (λ (x : MachineState). length x.output) (c.self.view_is ∙ sym c.of-before.ensures),
    )

pub returns-in-Ok-Drafted : goal.returns-in-Ok-Drafted
returns-in-Ok-Drafted g c =
    let m = machine_view c.self.inside in
    let same : states c.deref-3.result.now ≡ m.nodes = ap states c.deref-3.ensures.value in
    let nodes : states c.deref-3.result.now ≡ c.args.self.nodes = same ∙ ap (λ (x : MachineState). x.nodes) c.self.view_is in
    let drafted = rw c.in-Ok-Drafted.field-0-is at c.in-Ok-Drafted.ensures.closes in
    record {
      enabled = c.requires;
      exchanges = ap outcome_of (sym nodes) ∙ drafted.none;
      rest = c.of-before.ensures;
      row = ap (λ (x : MachineState). x.nodes) c.self.view_is;
      gathered = drafted.gathered ∙ ap parts_of nodes;
      ready =
          subst (λ (ps : List PreparedNode). AllZip CanPrepare c.in-Ok-Drafted.field-0-0.parts.items (states ps)) c.deref-3.ensures.value
          drafted.ready;
    }

pub add_prepared-requires-clause-relation : goal.add_prepared-requires-clause-relation
add_prepared-requires-clause-relation g c = none_fits c.last_row.result.h (ap (λ (r : CostRow). r.h) c.last_row.ensures)

pub add_prepared-requires-clause-whole_relation : goal.add_prepared-requires-clause-whole_relation
add_prepared-requires-clause-whole_relation g c = none_fits c.last_row.result.h_all (ap (λ (r : CostRow). r.h_all) c.last_row.ensures)

pub add_prepared-requires-clause-messages : goal.add_prepared-requires-clause-messages
add_prepared-requires-clause-messages g c = none_fits c.last_row.result.messages (ap (λ (r : CostRow). r.messages) c.last_row.ensures)

pub add_prepared-requires-clause-ready : goal.add_prepared-requires-clause-ready
add_prepared-requires-clause-ready g c = c.in-Ok-Over.ensures.ready
