-- The keeper's seat may be split for a worker who is not counted yet.
use Rattle.std.proofs.Common.{arith}
use Rattle.claim_table.specs.Start.{start_of}
use Rattle.claim_table.proofs.Allowed.{may_hire}
use Rattle.claim_table.proofs.worker.Worker.first.Goals as goal

pub split_seat-worker-requires : goal.split_seat-worker-requires
split_seat-worker-requires g c = (
  c.requires.seated,
  omega (arith, c.requires.sized.0),
  may_hire (start_of c.args.shared.now.key) c.args.shared.now.table_id.slots c.args.seat.now.id c.args.seat.now.me.0,
)
