-- The checks that a get has passed make it well addressed and within the limits, so the hart stays sound with it.
use Rattle.std.proofs.Common.{◌≡◌, ◌∙◌, sym, refl, true, false, length}
use Rattle.bsp_slots.proofs.Positions.{IsLastEntry-from}
use Rattle.bsp_requests.specs.Requests.{is_full_for}
use Rattle.bsp_requests.specs.Request.{asks_get}
use Rattle.node_memory.specs.Bytes.{fits}
use Rattle.node_core.specs.Communication.{IsWellAddressed}
use Rattle.node_core.specs.Inside.{hart_view}
use Rattle.node_core.proofs.Harts.{Keeps-requested}
use Rattle.node_core.proofs.Ranks.{rank-fits}
use Rattle.node_core.proofs.hart.Hart.issue_get.Goals as goal

pub overflow_cast-get : goal.overflow_cast-get
overflow_cast-get g c = rank-fits _ (hart_view c.self.inside).hart.nprocs c.if-target-self.false c.self.invariant.few

pub invariant_of-self : goal.invariant_of-self
invariant_of-self g c =
    let h = (hart_view c.self.inside).hart in
    let fit : fits (length h.memory) c.reg-dst.result c.reg-len.result ≡ true =
    sym (rw c.plain.ensures at c.fits.ensures) ∙ c.if-not-fits.false in
    let room : is_full_for h.communication.requests c.reg-len.result ≡ false =
    rw (← c.from.ensures, ← c.is_full_for.ensures) c.if-is_full_for.false in
    let slot =
    (IsLastEntry-from h.communication.registrations.in_effect c.reg-src.result c.in-Some.slot
    (sym c.find.ensures ∙ c.in-Some.is)).within in
    let request =
    asks_get (record {
      target = c.reg-target.result;
      slot = c.in-Some.slot;
      offset = c.reg-offset.result;
      dst = c.reg-dst.result;
      len = c.reg-len.result;
    }) in
    let met : IsWellAddressed h.nprocs (length h.communication.registrations.in_effect) (length h.memory) request =
    (c.if-target-self.false, slot, fit) in
    rw c.in-Ok.ensures.ok ((Keeps-requested h request c.reg-len.result refl room met).sound c.self.invariant)
