-- Any seat may be split for a worker who is not counted yet.
use Rattle.std.proofs.Common.{arith}
use Rattle.claim_table.specs.Start.{start_of}
use Rattle.claim_table.proofs.Allowed.{may_hire}
use Rattle.claim_table.proofs.worker.Worker.another.Goals as goal

pub split_seat-seat-requires : goal.split_seat-seat-requires
split_seat-seat-requires g c =
    let this = c.args.self.now in (
      this.seated,
      omega (arith, this.sized.0),
      may_hire (start_of this.shared.now.key) this.shared.now.table_id.slots this.seat.id this.seat.me.0,
    )
