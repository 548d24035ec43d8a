-- The parts before this place have landed, each in the node at its place, and the others and their nodes are as they were.
use Rattle.std.proofs.Common.{◌≡◌, ◌++◌, map, take, drop}
use Rattle.bsp_exchange.specs.Parts.{spent_part}
use Rattle.bsp_exchange.proofs.LandedRow.{row_landed}
use Rattle.bsp_exchange.proofs.barrier.land_all.Given as goal

abbrev pub invariant-loop-place : goal.invariant-loop-place
invariant-loop-place g l = record {
  nodes : l.nodes ≡ row_landed (take l.place l.fn.parts) l.fn.nodes;
  parts : l.parts ≡ map spent_part (take l.place l.fn.parts) ++ drop l.place l.fn.parts;
}
