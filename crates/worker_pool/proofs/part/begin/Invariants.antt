-- The nodes before this place have made some steps of their own, and the others are as they were.
use Rattle.std.proofs.Common.{◌≡◌, length, take, drop}
use Rattle.std.specs.Prelude.{IsFalse}
use Rattle.bsp_exchange.specs.Exchange.{states}
use Rattle.machine_core.specs.Events.{HaveStepped}
use Rattle.worker_pool.proofs.part.begin.Given as goal

-- the nodes before this place have stepped, and the others are as they were
abbrev pub invariant-loop-place : goal.invariant-loop-place
invariant-loop-place g l = record {
  stepped : HaveStepped l.input (states (take l.place l.initial.nodes.items)) (states (take l.place l.nodes.items));
  rest : drop l.place l.nodes.items ≡ drop l.place l.initial.nodes.items;
  length : length l.nodes.items ≡ length l.initial.nodes.items;
  no_worker : IsFalse l.refused.thread;
}
