-- A worker who is counted and has no node may leave.
use Rattle.std.proofs.Common.{arith}
use Rattle.claim_table.specs.Start.{start_of}
use Rattle.claim_table.proofs.Allowed.{can_retire}
use Rattle.claim_table.proofs.worker.Worker.retire.Goals as goal

pub fetch_sub-requires : goal.fetch_sub-requires
fetch_sub-requires g c =
    let this = c.args.self.now in (
      this.seated,
      omega (arith, this.sized.0),
      can_retire (start_of this.shared.now.key) this.shared.now.table_id.slots this.seat.id this.seat.me this.ranks this.sized.1 c.requires,
    )
