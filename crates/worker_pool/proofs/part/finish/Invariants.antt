-- The nodes before this place have been worked on, and the others are as they were.
use Rattle.std.proofs.Common.{◌≡◌, length, take, drop}
use Rattle.std.specs.Prelude.{IsFalse}
use Rattle.bsp_exchange.specs.Exchange.{states}
use Rattle.worker_pool.specs.Work.{IsWorked}
use Rattle.worker_pool.proofs.part.finish.Given as goal

-- the nodes before this place have been worked on, and the others are as they were
abbrev pub invariant-loop-place : goal.invariant-loop-place
invariant-loop-place g l = record {
  work : IsWorked l.input (states (take l.place l.initial.nodes.items)) (states (take l.place l.nodes.items)) l.refused.memory;
  rest : drop l.place l.nodes.items ≡ drop l.place l.initial.nodes.items;
  length : length l.nodes.items ≡ length l.initial.nodes.items;
  no_worker : IsFalse l.refused.thread;
}
