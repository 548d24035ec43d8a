-- The most so far is the greatest of the loads before this one.
use Rattle.std.proofs.Common.{◌≡◌, take}
use Rattle.bsp_exchange.specs.Loads.{greatest}
use Rattle.bsp_exchange.proofs.traffic.greatest.Given as goal

abbrev pub invariant-loop-load : goal.invariant-loop-load
invariant-loop-load l = l.most ≡ greatest (take l.load-index l.loads)
