-- The parts land in nodes that were prepared for them, and so it is the turn; or the turn is called off, and nothing has changed.
use Rattle.std.proofs.Common.{List, sym, ap, ap₂, ◌∙◌, arith}
use Rattle.std.specs.Vec.{with_items}
use Rattle.std.proofs.lemmas.List.{with_items_is}
use Rattle.node_core.specs.Node.{NodeState}
use Rattle.bsp_exchange.specs.Exchange.{states}
use Rattle.bsp_exchange.specs.Parts.{PartState, landed}
use Rattle.machine_core.specs.declared.event.Event.TheVariants.{Turn}
use Rattle.machine_core.specs.Events.{event}
use Rattle.machine_core.specs.Landing.{row_landed}
use Rattle.machine_core.specs.Machine.{MachineState}
use Rattle.machine_core.proofs.machine.Machine.turn_whole.Goals as goal

pub prepare_all-requires : goal.prepare_all-requires
prepare_all-requires g c = rw (c.deref.ensures.value, c.deref_mut.ensures.value) c.in-Landing.ensures.ready

pub call_off-requires : goal.call_off-requires
call_off-requires g c =
    let handed = c.in-Landing.ensures in
    ap states (with_items_is c.in-Landing.field-0.nodes c.prepare_all.new.nodes (omega arith))
    ∙ c.prepare_all.ensures.same
    ∙ ap states c.deref_mut.ensures.value
    ∙ handed.row
    ∙ sym (ap (λ (x : MachineState). x.nodes) handed.rest)

pub land_all-requires : goal.land_all-requires
land_all-requires g c =
    let row = c.deref_mut-in-Ok.ensures.value ∙ with_items_is c.in-Landing.field-0.nodes c.prepare_all.new.nodes (omega arith) in
    let can = rw c.deref.ensures.value at c.in-Ok.ensures.ok in
    rw (c.deref_mut-in-Ok-2.ensures.value, row) can

pub finish-requires : goal.finish-requires
finish-requires g c =
    let handed = c.in-Landing.ensures in
    let row = c.deref_mut-in-Ok.ensures.value ∙ with_items_is c.in-Landing.field-0.nodes c.prepare_all.new.nodes (omega arith) in
    let nodes = ap states row ∙ c.prepare_all.ensures.same ∙ ap states c.deref_mut.ensures.value ∙ handed.row in
    ap states (with_items_is (with_items c.in-Landing.field-0.nodes c.prepare_all.new.nodes) c.land_all.new.nodes (omega arith))
    ∙ c.land_all.ensures.nodes
    ∙ ap₂ (λ (parts : List PartState) (ns : List NodeState). landed parts ns) (c.deref_mut-in-Ok-2.ensures.value ∙ handed.gathered) nodes
    ∙ sym (ap (λ (x : MachineState). row_landed x.nodes) handed.rest)

pub returns-in-Ok : goal.returns-in-Ok
returns-in-Ok g c =
    let handed = c.in-Landing.ensures in
    record {
      ok = c.finish.ensures.turned ∙ ap (λ (x : MachineState). event x Turn) handed.rest;
      enabled = sym handed.enabled;
      err = tt;
      refuses = tt;
    }

pub returns : goal.returns
returns g c =
    let handed = c.in-Landing.ensures in
    record {
      ok = tt;
      enabled = tt;
      err = c.call_off.ensures ∙ handed.rest;
      refuses = handed.enabled;
    }
