-- A pop that was noted keeps the hart sound and takes away the room for the turn; an area that is not registered is the fault.
use Rattle.std.proofs.Common.{arith, rules}
use Rattle.std.proofs.lemmas.Grind.{common_steps}
use Rattle.node_core.specs.Inside.{hart_view}
use Rattle.node_core.proofs.Harts.{IsHart-popped, not_ready-popped}
use Rattle.node_core.proofs.hart.Hart.pop_reg.Goals as goal

pub invariant_of-self : goal.invariant_of-self
invariant_of-self g c = IsHart-popped (hart_view c.self.inside).hart _ c.pop.new.self c.in-Ok.ensures.ok c.self.invariant

pub returns-in-Ok-clause-ready : goal.returns-in-Ok-clause-ready
returns-in-Ok-clause-ready g c =
    let room = not_ready-popped (hart_view c.self.inside).hart _ c.pop.new.self c.in-Ok.ensures.ok c.args.self.now.ready in
    grind (arith, common_steps, room)

pub returns-in-Err-NotRegistered-clause-ok : goal.returns-in-Err-NotRegistered-clause-ok
returns-in-Err-NotRegistered-clause-ok g c = search rules
