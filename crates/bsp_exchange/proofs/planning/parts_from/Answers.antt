-- The first of what is left becomes the next part; when nothing is left, the parts are those of all that arrived.
use Rattle.std.proofs.Common.{◌+◌, ◌^◌, ◌<◌, ◌++◌, List, length, map, refl, sym, ap, ◌∙◌, arith}
use Rattle.std.specs.List.{enumerate_from}
use Rattle.std.proofs.lemmas.List.{append-nil, nil_from_length}
use Rattle.std.proofs.lemmas.List.Elements.{All-head, All-tail}
use Rattle.bsp_requests.specs.Inbox.{IsQueue}
use Rattle.node_core.specs.Hart.{max_nodes}
use Rattle.bsp_exchange.specs.Arrivals.{Received, part_from}
use Rattle.bsp_exchange.specs.Parts.{bytes_in}
use Rattle.bsp_exchange.proofs.Planned.{next_part, few_more}
use Rattle.bsp_exchange.proofs.planning.parts_from.Goals as goal

pub loop-received-init : goal.loop-received-init
loop-received-init g c =
    let none = c.in_ok-parts.ensures.items in
    let all = c.into_iter-received-iterator.ensures.into_iter_gives.0 in
    record {
      parts = rw none (rw all refl);
      queues = rw all c.requires.queues;
      bytes = rw all c.requires.bytes;
      few = rw none (rw all (omega (arith, c.requires.few)));
    }

pub overflow_cast-len : goal.overflow_cast-len
overflow_cast-len g c = omega (arith, c.len-in-loop-received.ensures, c.loop-received.parts.ok.0, c.loop-received.invariant.few)

pub new-requires-clause-few : goal.new-requires-clause-few
new-requires-clause-few g c =
    All-head (λ (r : Received). bytes_in r.gets + bytes_in r.puts < 2 ^ 63) c.in-Some.received c.next.new.self.rest.items
    (rw c.in-Some.ensures.steps.0 at c.loop-received.invariant.bytes)

pub new-requires-clause-queue : goal.new-requires-clause-queue
new-requires-clause-queue g c =
    All-head (λ (r : Received). IsQueue r.messages) c.in-Some.received c.next.new.self.rest.items
    (rw c.in-Some.ensures.steps.0 at c.loop-received.invariant.queues)

pub loop-received-preserved : goal.loop-received-preserved
loop-received-preserved g c =
    let parts = c.loop-received.parts.items in
    let rest = c.next.new.self.rest.items in
    let steps = c.in-Some.ensures.steps.0 in
    let pushed = c.in_ok-push.ensures.items in
    record {
      parts =
          next_part parts _ c.loop-received.received-iterator.rest.items rest c.in-Some.received c.new.result c.len-in-loop-received.result
          c.push.new.self.items c.loop-received.invariant.parts steps (c.len-in-loop-received.ensures ∙ c.loop-received.parts.ok.0)
          c.new.ensures pushed;
      queues = All-tail (λ (r : Received). IsQueue r.messages) c.in-Some.received rest (rw steps at c.loop-received.invariant.queues);
      bytes =
          All-tail (λ (r : Received). bytes_in r.gets + bytes_in r.puts < 2 ^ 63) c.in-Some.received rest
          (rw steps at c.loop-received.invariant.bytes);
      few =
          few_more parts c.push.new.self.items c.loop-received.received-iterator.rest.items rest c.in-Some.received c.new.result max_nodes
          steps pushed c.loop-received.invariant.few;
    }

pub returns : goal.returns
returns g c =
    let parts = c.loop-received.parts.items in
    let none =
    nil_from_length c.loop-received.received-iterator.rest.items
    (sym c.loop-received.received-iterator.rest.ok.0 ∙ c.in-None.ensures.steps.0) in
    sym (c.loop-received.invariant.parts
    ∙ ap (λ (rs : List Received). parts ++ map part_from (enumerate_from (length parts) rs)) none
    ∙ append-nil parts)
