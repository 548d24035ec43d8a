-- Each request meets the limits because the node is sound, and adding it keeps the invariant; past the last one all are added.
use Rattle.std.proofs.Common.{◌+◌, ◌^◌, List, take, ap, sym, ◌∙◌, arith}
use Rattle.std.proofs.lemmas.List.{take_all}
use Rattle.std.proofs.lemmas.List.Elements.{All-same}
use Rattle.bsp_requests.specs.Request.{Asked, asked}
use Rattle.bsp_requests.specs.Requests.{Requests}
use Rattle.bsp_exchange.specs.Exchange.{states}
use Rattle.bsp_exchange.specs.Arrivals.{Received, with_asked, with_issued}
use Rattle.bsp_exchange.specs.Loads.{with_transfer, with_transfers, transfers_of, IsWithin}
use Rattle.bsp_exchange.specs.Traffic.{transfer}
use Rattle.bsp_exchange.proofs.Finds.{asked_all, asked_here, issued_from, keeps_here, no_request_left}
use Rattle.bsp_exchange.proofs.Gathered.{gathered_here, gathered_all, target_there}
use Rattle.bsp_exchange.proofs.Limits.{bytes_at_most, requests_at_most}
use Rattle.bsp_exchange.proofs.Loads.{next_transfer, size_within, room_left}
use Rattle.bsp_exchange.proofs.gather.add_requests.Goals as goal

pub add_request-requires-clause-target : goal.add_request-requires-clause-target
add_request-requires-clause-target g c =
    let i = c.loop-request.request-index in
    let n = c.args.node.now.node in
    let lent = c.as_slice-request-items.ensures ∙ ap (λ (q : Requests). q.requests) c.requests.ensures.value in
    let is =
    asked_here n.hart.communication.requests.requests c.as_slice-request-items.result.now i c.request-item.result lent
    c.loop-request-test.true c.request-item.is in
    rw (← c.requires.count) (target_there n i (asked c.request-item.result) c.requests.ensures.sound is)

pub loop-request-preserved : goal.loop-request-preserved
loop-request-preserved g c =
    let i = c.loop-request.request-index in
    let n = c.args.node.now.node in
    let nodes = states c.args.nodes.now in
    let parts = c.loop-request.parts in
    let r = asked c.request-item.result in
    let lent = c.as_slice-request-items.ensures ∙ ap (λ (q : Requests). q.requests) c.requests.ensures.value in
    let is =
    asked_here n.hart.communication.requests.requests c.as_slice-request-items.result.now i c.request-item.result lent
    c.loop-request-test.true c.request-item.is in
    let added = c.in_ok-add_request.ensures in
    let new = added.ok ∙ ap (λ k. with_asked nodes k parts r) c.rank-caller.ensures in
    record {
      size = c.add_request.auto.parts ∙ c.loop-request.invariant.size;
      inside = sym (keeps_here nodes n i r is added.inside) ∙ c.loop-request.invariant.inside;
      same =
          ap (λ (ps : List Received). with_issued nodes ps (issued_from n (i + 1))) new
          ∙ sym (gathered_here nodes parts n i r is)
          ∙ c.loop-request.invariant.same;
      added =
          next_transfer c.args.loads.now c.loop-request.loads c.add_request.new.loads n.hart.rank n.hart.communication.requests.requests i r
          c.loop-request.invariant.added is (added.loads ∙ ap (λ k. with_transfer c.loop-request.loads (transfer k r)) c.rank-caller.ensures);
    }

pub add_request-requires-clause-limit : goal.add_request-requires-clause-limit
add_request-requires-clause-limit g c =
    let i = c.loop-request.request-index in
    let n = c.args.node.now.node in
    let lent = c.as_slice-request-items.ensures ∙ ap (λ (q : Requests). q.requests) c.requests.ensures.value in
    let is =
    asked_here n.hart.communication.requests.requests c.as_slice-request-items.result.now i c.request-item.result lent
    c.loop-request-test.true c.request-item.is in
    size_within n.hart.communication.requests.requests i (asked c.request-item.result) (2 ^ 32) is
    (omega (arith, bytes_at_most n.hart.communication.requests c.requests.ensures.sound.communication.requests))

pub add_request-requires-clause-room : goal.add_request-requires-clause-room
add_request-requires-clause-room g c =
    let i = c.loop-request.request-index in
    let n = c.args.node.now.node in
    let rs = n.hart.communication.requests.requests in
    let limits = c.requests.ensures.sound.communication.requests in
    All-same (IsWithin (2 ^ 48)) c.loop-request.loads (with_transfers c.args.loads.now (transfers_of n.hart.rank (take i rs)))
    c.loop-request.invariant.added
    (room_left c.args.loads.now n.hart.rank rs i (2 ^ 47) (2 ^ 48) c.requires.room
    (omega (arith, bytes_at_most n.hart.communication.requests limits, requests_at_most n.hart.communication.requests limits)))

pub returns-clause-loads : goal.returns-clause-loads
returns-clause-loads g c =
    let n = c.args.node.now.node in
    let rs = n.hart.communication.requests.requests in
    let lent = c.as_slice-request-items.ensures ∙ ap (λ (q : Requests). q.requests) c.requests.ensures.value in
    let past = asked_all rs c.as_slice-request-items.result.now c.loop-request.request-index lent c.loop-request-test.false in
    c.loop-request.invariant.added
    ∙ ap (λ (asks : List Asked). with_transfers c.args.loads.now (transfers_of n.hart.rank asks))
    (take_all c.loop-request.request-index rs past)

pub returns-clause-ok : goal.returns-clause-ok
returns-clause-ok g c =
    let n = c.args.node.now.node in
    let lent = c.as_slice-request-items.ensures ∙ ap (λ (q : Requests). q.requests) c.requests.ensures.value in
    let past =
    asked_all n.hart.communication.requests.requests c.as_slice-request-items.result.now c.loop-request.request-index lent
    c.loop-request-test.false in
    sym (gathered_all (states c.args.nodes.now) c.loop-request.parts n c.loop-request.request-index past) ∙ c.loop-request.invariant.same

pub returns-clause-inside : goal.returns-clause-inside
returns-clause-inside g c =
    let n = c.args.node.now.node in
    let lent = c.as_slice-request-items.ensures ∙ ap (λ (q : Requests). q.requests) c.requests.ensures.value in
    let past =
    asked_all n.hart.communication.requests.requests c.as_slice-request-items.result.now c.loop-request.request-index lent
    c.loop-request-test.false in
    sym c.loop-request.invariant.inside ∙ no_request_left (states c.args.nodes.now) n c.loop-request.request-index past
