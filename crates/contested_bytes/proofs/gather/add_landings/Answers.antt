-- Each request lies inside and has room, and what it lands, if it does, comes behind what was gathered.
use Rattle.std.proofs.Common.{ℕ, sym, ap, ◌∙◌}
use Rattle.bsp_requests.specs.Request.{asked}
use Rattle.bsp_requests.specs.Requests.{Requests}
use Rattle.bsp_exchange.specs.Exchange.{states}
use Rattle.bsp_exchange.proofs.Finds.{asked_all, asked_here}
use Rattle.contested_bytes.specs.Gathered.{landing_of}
use Rattle.contested_bytes.proofs.Requested.{stays_inside, rest_inside, has_room, gathered-none, gathered-some, gathered-whole}
use Rattle.contested_bytes.proofs.gather.add_landings.Goals.{in-Some+in_ok-push, in_default}
use Rattle.contested_bytes.proofs.gather.add_landings.Goals as goal

pub landing_of-requires-clause-inside : goal.landing_of-requires-clause-inside
landing_of-requires-clause-inside g c =
    let i = c.loop-issue.issue in
    let n = c.args.node.now.node in
    let lent = c.as_slice-requests.ensures ∙ ap (λ (q : Requests). q.requests) c.requests.ensures.value in
    let is =
    asked_here n.hart.communication.requests.requests c.as_slice-requests.result.now i c.index-requests-issue.result lent
    c.loop-issue-test.true c.index-requests-issue.is in
    stays_inside (states c.args.nodes.now) n i (asked c.index-requests-issue.result) is c.loop-issue.invariant.inside

pub landing_of-requires-clause-room : goal.landing_of-requires-clause-room
landing_of-requires-clause-room g c =
    let i = c.loop-issue.issue in
    let n = c.args.node.now.node in
    let lent = c.as_slice-requests.ensures ∙ ap (λ (q : Requests). q.requests) c.requests.ensures.value in
    let is =
    asked_here n.hart.communication.requests.requests c.as_slice-requests.result.now i c.index-requests-issue.result lent
    c.loop-issue-test.true c.index-requests-issue.is in
    has_room n i (asked c.index-requests-issue.result) c.requests.ensures.sound is

pub loop-issue-preserved : goal.loop-issue-preserved
loop-issue-preserved g c =
    let nodes = states c.args.nodes.now in
    let i = c.loop-issue.issue in
    let n = c.args.node.now.node in
    let r = asked c.index-requests-issue.result in
    let all = c.loop-issue.all.items in
    let known = c.loop-issue.invariant in
    let lent = c.as_slice-requests.ensures ∙ ap (λ (q : Requests). q.requests) c.requests.ensures.value in
    let is =
    asked_here n.hart.communication.requests.requests c.as_slice-requests.result.now i c.index-requests-issue.result lent
    c.loop-issue-test.true c.index-requests-issue.is in
    let inside = rest_inside nodes n i r is known.inside in
    let lands = sym (c.in_ok-landing.ensures ∙ ap (λ (caller : ℕ). landing_of nodes caller i r) c.rank.ensures) in
    elim c.match-branch-2.branch [
      | in-Some+in_ok-push w ↦
          rw (w.all-is, w.in_ok-push.ensures.items)
          (record { inside = inside; same = gathered-some nodes n i r all w.in-Some.landing is (lands ∙ w.in-Some.is) ∙ known.same })
      | in_default w ↦
          rw w.all-is (record { inside = inside; same = gathered-none nodes n i r all is (lands ∙ w.in_default.is) ∙ known.same })
    ]

pub returns : goal.returns
returns g c =
    let n = c.args.node.now.node in
    let lent = c.as_slice-requests.ensures ∙ ap (λ (q : Requests). q.requests) c.requests.ensures.value in
    let past =
    asked_all n.hart.communication.requests.requests c.as_slice-requests.result.now c.loop-issue.issue lent c.loop-issue-test.false in
    sym (gathered-whole (states c.args.nodes.now) n c.loop-issue.issue c.loop-issue.all.items past) ∙ c.loop-issue.invariant.same
