-- The checks that a put has passed make it well addressed and within the limits, so the hart stays sound with it.
use Rattle.std.proofs.Common.{◌≡◌, ◌∙◌, ap, sym, true, false, length, arith}
use Rattle.std.proofs.lemmas.Grind.{common_steps}
use Rattle.bsp_slots.proofs.Positions.{IsLastEntry-from}
use Rattle.bsp_requests.specs.Requests.{is_full_for}
use Rattle.bsp_requests.specs.Request.{asks_put}
use Rattle.node_memory.specs.Bytes.{fits, bytes_at}
use Rattle.node_core.specs.Communication.{IsWellAddressed}
use Rattle.node_core.specs.Inside.{hart_view}
use Rattle.node_memory.proofs.Bytes.{length-bytes_at}
use Rattle.node_core.proofs.Harts.{Keeps-requested}
use Rattle.node_core.proofs.Ranks.{rank-fits}
use Rattle.node_core.proofs.hart.Hart.issue_put.Goals as goal

pub overflow_cast-put : goal.overflow_cast-put
overflow_cast-put g c = rank-fits _ (hart_view c.self.inside).hart.nprocs c.if-target-self.false c.self.invariant.few

pub invariant_of-self : goal.invariant_of-self
invariant_of-self g c =
    let h = (hart_view c.self.inside).hart in
    let fit : fits (length h.memory) c.reg-src.result c.reg-len.result ≡ true =
    sym (rw c.plain.ensures at c.fits.ensures) ∙ c.if-not-fits.false in
    let counts = ap length (rw c.plain-2.ensures at c.in-Ok.ensures.ok) ∙ length-bytes_at h.memory c.reg-src.result c.reg-len.result fit in
    let room : is_full_for h.communication.requests c.reg-len.result ≡ false =
    rw (← c.from.ensures, ← c.is_full_for.ensures) c.if-is_full_for.false in
    let slot =
    (IsLastEntry-from h.communication.registrations.in_effect c.reg-dst.result c.in-Some.slot
    (sym c.find.ensures ∙ c.in-Some.is)).within in
    let request =
    asks_put (record { target = c.reg-target.result; slot = c.in-Some.slot; offset = c.reg-offset.result; bytes = c.in-Ok.bytes }) in
    let met : IsWellAddressed h.nprocs (length h.communication.registrations.in_effect) (length h.memory) request =
    (c.if-target-self.false, slot) in
    rw c.in-Ok-add_put.ensures.ok ((Keeps-requested h request c.reg-len.result counts room met).sound c.self.invariant)

pub returns-in-Ok-add_put-clause-ok : goal.returns-in-Ok-add_put-clause-ok
returns-in-Ok-add_put-clause-ok g c =
    let copied : c.in-Ok.bytes ≡ bytes_at (hart_view c.self.inside).hart.memory c.reg-src.result c.reg-len.result =
    rw c.plain-2.ensures at c.in-Ok.ensures.ok in
    grind (arith, common_steps, copied)
