-- A push that was noted had room for one more, so the hart stays sound with it.
use Rattle.std.proofs.Common.{◌≡◌, false, arith}
use Rattle.std.proofs.lemmas.Grind.{common_steps}
use Rattle.bsp_slots.specs.Registrations.{is_full}
use Rattle.node_core.specs.Inside.{hart_view}
use Rattle.node_core.proofs.Harts.{Keeps-pushed}
use Rattle.node_core.proofs.hart.Hart.push_reg.Goals as goal

pub invariant_of-self : goal.invariant_of-self
invariant_of-self g c =
    let h = (hart_view c.self.inside).hart in
    let room : is_full h.communication.registrations ≡ false = grind (arith, common_steps) in
    rw c.in-Ok.ensures.ok
    ((Keeps-pushed h (record { addr = c.reg.result; size = c.reg-2.result }) room (grind arith)).sound c.self.invariant)
