-- The node of a rank that is at home and runs may be taken, and the slot that is out with the worker has it.
use Rattle.std.proofs.Common.{◌≡◌, ◌∷◌, Some, arith, refl, ap, ◌∙◌, rules}
use Rattle.claim_table.specs.ClaimSteps.{ViewAndSlots}
use Rattle.claim_table.specs.Start.{start_of}
use Rattle.claim_table.proofs.Allowed.{can_take}
use Rattle.claim_table.proofs.worker.Worker.take.Goals as goal

pub compare_exchange-requires : goal.compare_exchange-requires
compare_exchange-requires g c =
    let this = c.args.self.now in (
      this.seated,
      omega (arith, this.sized.0, c.requires.within),
      can_take (start_of this.shared.now.key) this.shared.now.table_id.slots this.seat.id this.seat.me c.args.rank
          (omega (arith, this.sized.1, c.requires.within)) c.requires.idle,
    )

pub exchange-requires : goal.exchange-requires
exchange-requires g c =
    let this = c.args.self.now in
    let hit : c.compare_exchange.result ≡ 0 = search rules in
    let taken = c.compare_exchange.ensures.2.0 hit in
    let slots : c.compare_exchange.new.seat.me.1 ≡ (c.args.rank, Some taken.0) ∷ this.seat.me.1 = ap (λ (m : ViewAndSlots). m.1) taken.2 in
    (c.compare_exchange.ensures.0 ∙ this.seated, (Some taken.0, rw (slots) refl))
