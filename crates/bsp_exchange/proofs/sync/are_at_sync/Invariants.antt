-- The nodes before this one wait at their places.
use Rattle.bsp_exchange.proofs.Waiting.{WaitBelow}
use Rattle.bsp_exchange.proofs.sync.are_at_sync.Given as goal

abbrev pub invariant-loop-place : goal.invariant-loop-place
invariant-loop-place g l = WaitBelow l.nodes l.areas l.place
