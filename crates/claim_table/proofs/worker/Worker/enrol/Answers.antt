-- A worker who is away may be counted where fewer than the most are.
use Rattle.std.proofs.Common.{arith}
use Rattle.claim_table.specs.Start.{start_of}
use Rattle.claim_table.proofs.Allowed.{can_enrol}
use Rattle.claim_table.proofs.worker.Worker.enrol.Goals as goal

pub compare_exchange-found-requires : goal.compare_exchange-found-requires
compare_exchange-found-requires g c =
    let this = c.loop.self in
    let few = c.if-count-ge-MOST_WORKERS.false in (
      this.seated,
      omega (arith, this.sized.0),
      can_enrol (start_of this.shared.now.key) this.shared.now.table_id.slots this.seat.id this.seat.me this.ranks c.loop.count this.sized.1
          (omega (arith, few)) c.loop.invariant,
    )
