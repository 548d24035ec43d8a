-- What the steps do to a place of the row is what they do to the machine, which stays sound; the addresses are those of its node.
use Rattle.std.proofs.Common.{◌≡◌, ℕ, List, length, sym, ap, ap₂, ◌∙◌, arith}
use Rattle.std.proofs.lemmas.List.{length-map, with_items_is}
use Rattle.node_core.specs.Node.{NodeState, PreparedNode}
use Rattle.bsp_exchange.specs.Exchange.{states}
use Rattle.machine_core.specs.Events.{next_addresses_at}
use Rattle.machine_core.specs.Inside.{machine_view}
use Rattle.machine_core.specs.Machine.{MachineState}
use Rattle.machine_core.proofs.Addresses.{if_ok_weaker}
use Rattle.machine_core.proofs.Runs.{sound-steps, steps_made}
use Rattle.machine_core.proofs.machine.Machine.run_traced_at.Goals as goal

pub run_traced_at-requires : goal.run_traced_at-requires
run_traced_at-requires g c =
    let long : length c.args.self.now.nodes ≡ length c.deref_mut.result.now =
    ap (λ (m : MachineState). length m.nodes) (sym c.self.view_is) ∙ length-map c.self.inside.nodes.items (λ (p : PreparedNode). p.node)
    ∙ sym (ap length c.deref_mut.ensures.value) in
    rw (← long) c.requires

pub invariant_of-self : goal.invariant_of-self
invariant_of-self g c =
    let row = with_items_is c.self.inside.nodes c.run_traced_at.new.nodes (omega arith) in
    sound-steps (machine_view c.self.inside) c.as_slice.result.now c.deref_mut.result.now c.run_traced_at.new.nodes _ c.args.rank
    c.as_slice.ensures (ap states c.deref_mut.ensures.value) (ap states row)
    c.run_traced_at.result (length c.args.pcs.now) c.self.invariant c.run_traced_at.ensures.steps

pub returns-clause-steps : goal.returns-clause-steps
returns-clause-steps g c =
    let row = with_items_is c.self.inside.nodes c.run_traced_at.new.nodes (omega arith) in
    steps_made (machine_view c.self.inside) c.as_slice.result.now c.deref_mut.result.now c.run_traced_at.new.nodes _ c.args.rank
    c.as_slice.ensures (ap states c.deref_mut.ensures.value) (ap states row)
    _ c.run_traced_at.result (length c.args.pcs.now) c.self.view_is c.run_traced_at.ensures.steps

pub returns-clause-addresses : goal.returns-clause-addresses
returns-clause-addresses g c =
    let rank = c.args.rank in
    let k = length c.args.pcs.now in
    if_ok_weaker c.run_traced_at.result _ _
    (λ made those. record {
      few = those.few;
      are = those.are
          ∙ ap₂ (λ (i : List ℕ) (xs : List NodeState). next_addresses_at i rank k xs) c.as_slice.ensures
          (ap states c.deref_mut.ensures.value)
          ∙ ap (λ (m : MachineState). next_addresses_at m.input rank k m.nodes) c.self.view_is;
    })
    c.run_traced_at.ensures.addresses
