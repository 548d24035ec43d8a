-- A step at a place of the row is the event of that rank, and keeps the machine sound.
use Rattle.std.proofs.Common.{ap, arith}
use Rattle.std.proofs.lemmas.List.{with_items_is}
use Rattle.bsp_exchange.specs.Exchange.{states}
use Rattle.machine_core.specs.Inside.{machine_view}
use Rattle.machine_core.proofs.Runs.{sound-steps, step_answered}
use Rattle.machine_core.proofs.machine.Machine.step.Goals as goal

pub invariant_of-self : goal.invariant_of-self
invariant_of-self g c =
    let row = with_items_is c.self.inside.nodes c.step_at.new.nodes (omega arith) in
    sound-steps (machine_view c.self.inside) c.as_slice.result.now c.deref_mut.result.now c.step_at.new.nodes _ c.args.rank
    c.as_slice.ensures (ap states c.deref_mut.ensures.value) (ap states row)
    c.step_at.result 1 c.self.invariant c.step_at.ensures.step

pub returns : goal.returns
returns g c =
    let row = with_items_is c.self.inside.nodes c.step_at.new.nodes (omega arith) in
    step_answered (machine_view c.self.inside) c.as_slice.result.now c.deref_mut.result.now c.step_at.new.nodes _ c.args.rank
    c.as_slice.ensures (ap states c.deref_mut.ensures.value) (ap states row)
    _ c.step_at.result c.self.view_is c.step_at.ensures.step c.step_at.ensures.made
