-- The parts so far, and those of what is left, are those of all.
use Rattle.std.proofs.Common.{◌≡◌, ◌+◌, ◌^◌, ◌<◌, ◌≤◌, ◌++◌, All, length, map}
use Rattle.std.specs.List.{enumerate_from}
use Rattle.bsp_requests.specs.Inbox.{IsQueue}
use Rattle.node_core.specs.Hart.{max_nodes}
use Rattle.bsp_exchange.specs.Arrivals.{Received, part_from}
use Rattle.bsp_exchange.specs.Parts.{bytes_in}
use Rattle.bsp_exchange.proofs.planning.parts_from.Given as goal

abbrev pub invariant-loop-received : goal.invariant-loop-received
invariant-loop-received g l = record {
  parts : map part_from (enumerate_from 0 l.fn.arrivals.items)
      ≡ l.parts.items ++ map part_from (enumerate_from (length l.parts.items) l.received-iterator.rest.items);
  queues : All (λ (r : Received). IsQueue r.messages) l.received-iterator.rest.items;
  bytes : All (λ (r : Received). bytes_in r.gets + bytes_in r.puts < 2 ^ 63) l.received-iterator.rest.items;
  few : length l.parts.items + length l.received-iterator.rest.items ≤ max_nodes;
}
