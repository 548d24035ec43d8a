-- The keeper may seal a table that it has filled.
use Rattle.std.proofs.Common.{arith}
use Rattle.claim_table.specs.Start.{start_of}
use Rattle.claim_table.proofs.Keeping.{seal_allowed}
use Rattle.claim_table.proofs.keeper.seal.Goals as goal

pub compare_exchange-requires : goal.compare_exchange-requires
compare_exchange-requires g c =
    let inv = c.loop.invariant in (
      inv.seated.0,
      omega (arith, c.requires.sized.1),
      seal_allowed (start_of c.args.shared.now.key) _ _ c.args.ranks c.loop.seat.me c.requires.sized.0 inv.seated.1,
    )
