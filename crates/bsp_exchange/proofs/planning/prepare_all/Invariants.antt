-- The nodes are as they were but for the pages that have become private, and those before this one are prepared.
use Rattle.std.proofs.Common.{◌≡◌}
use Rattle.bsp_exchange.specs.Exchange.{states}
use Rattle.bsp_exchange.specs.Parts.{EachKeepsPrivate}
use Rattle.bsp_exchange.proofs.Preparing.{ArePreparedBelow}
use Rattle.bsp_exchange.proofs.planning.prepare_all.Given as goal

abbrev pub invariant-loop-place : goal.invariant-loop-place
invariant-loop-place g l = record {
  same : states l.nodes ≡ states l.fn.nodes;
  private : EachKeepsPrivate l.fn.nodes l.nodes;
  prepared : ArePreparedBelow l.parts l.nodes l.place;
}
