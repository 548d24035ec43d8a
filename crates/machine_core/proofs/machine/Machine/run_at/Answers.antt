-- What the steps do to a place of the row is what they do to the machine, which stays sound by them.
use Rattle.std.proofs.Common.{◌≡◌, length, sym, ap, subst, ◌∙◌, arith}
use Rattle.std.proofs.lemmas.List.{length-map, with_items_is}
use Rattle.node_core.specs.Node.{PreparedNode}
use Rattle.bsp_exchange.specs.Exchange.{states}
use Rattle.machine_core.specs.Inside.{machine_view}
use Rattle.machine_core.specs.Machine.{MachineState}
use Rattle.machine_core.specs.Sound.{IsSoundMachine}
use Rattle.machine_core.proofs.Runs.{sound-steps, steps_made}
use Rattle.machine_core.proofs.machine.Machine.run_at.Goals as goal

pub run_at-requires : goal.run_at-requires
run_at-requires g c =
    let long : length c.args.self.now.nodes ≡ length c.deref_mut.result.now =
    ap (λ (m : MachineState). length m.nodes) (sym c.self.view_is) ∙ length-map c.self.inside.nodes.items (λ (p : PreparedNode). p.node)
    ∙ sym (ap length c.deref_mut.ensures.value) in
    rw (← long) c.requires

pub invariant_of-self : goal.invariant_of-self
invariant_of-self g c =
    let row = with_items_is c.self.inside.nodes c.run_at.new.nodes (omega arith) in
    sound-steps (machine_view c.self.inside) c.as_slice.result.now c.deref_mut.result.now c.run_at.new.nodes _ c.args.rank
    c.as_slice.ensures (ap states c.deref_mut.ensures.value) (ap states row)
    c.run_at.result c.args.most c.self.invariant c.run_at.ensures

pub returns-clause-steps : goal.returns-clause-steps
returns-clause-steps g c =
    let row = with_items_is c.self.inside.nodes c.run_at.new.nodes (omega arith) in
    steps_made (machine_view c.self.inside) c.as_slice.result.now c.deref_mut.result.now c.run_at.new.nodes _ c.args.rank
    c.as_slice.ensures (ap states c.deref_mut.ensures.value) (ap states row)
    _ c.run_at.result c.args.most c.self.view_is c.run_at.ensures

pub returns-clause-sound : goal.returns-clause-sound
returns-clause-sound g c = subst IsSoundMachine c.self.view_is c.self.invariant
