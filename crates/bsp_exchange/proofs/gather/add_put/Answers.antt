-- The target's part is there, and is put back with the put added.
use Rattle.std.proofs.Common.{length}
use borrow.Author.Rules.{scaled_Fits}
use Rattle.bsp_exchange.specs.Arrivals.{with_put}
use Rattle.bsp_exchange.proofs.Gathered.{put_back}
use Rattle.bsp_exchange.proofs.gather.add_put.Goals as goal

pub returns : goal.returns
returns g c =
    put_back (with_put (record { addr = c.args.start; bytes = c.args.bytes.now })) c.args.target c.args.parts.now
    c.index-parts-target.result c.add_put.new.self c.add_put.result c.requires c.index-parts-target.is
    (rw c.index-parts-target.is c.add_put.ensures.ok)

pub bounds-parts-target : goal.bounds-parts-target
bounds-parts-target g c = c.requires

pub offset_bounds-parts-target : goal.offset_bounds-parts-target
offset_bounds-parts-target g c = scaled_Fits c.args.target (length c.args.parts.now) _ c.requires (search c.well_formed)
