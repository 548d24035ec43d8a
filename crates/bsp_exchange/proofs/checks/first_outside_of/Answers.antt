-- A request that keeps to its area is passed over, the first one that leaves it is the fault, and past the last request there is none.
use Rattle.std.proofs.Common.{length, ◌≤◌, arith, ap, sym, ◌∙◌, Some, option_copied, slice_get}
use Rattle.std.specs.Prelude.{option_map}
use Rattle.bsp_requests.specs.Request.{asked}
use Rattle.bsp_requests.specs.Requests.{Requests}
use Rattle.bsp_exchange.specs.declared.fault.ExchangeFault.TheVariants.{OutsideArea}
use Rattle.bsp_exchange.specs.Exchange.{states}
use Rattle.bsp_exchange.proofs.Finds.{leaves_here, keeps_here, no_request_left, past_end}
use Rattle.bsp_exchange.proofs.checks.first_outside_of.Goals.{in-Some+else-leaves_area, in_default}
use Rattle.bsp_exchange.proofs.checks.first_outside_of.Goals as goal

pub returns-then-leaves_area : goal.returns-then-leaves_area
returns-then-leaves_area g c =
    let i = c.loop-issue.issue in
    let n = c.args.node.now.node in
    let is =
    ap (λ (q : Requests). slice_get q.requests i) (sym c.requests-requests.ensures.value)
    ∙ sym c.at.ensures
    ∙ ap (option_map asked) (ap option_copied c.in-Some.is) in
    ap (λ r. Some (OutsideArea r i)) c.rank.ensures
    ∙ sym (leaves_here (states c.args.nodes.now) n i (asked c.in-Some.request.now) is (sym c.leaves_area.ensures ∙ c.if-leaves_area.true))
    ∙ c.loop-issue.invariant

pub loop-issue-preserved : goal.loop-issue-preserved
loop-issue-preserved g c =
    let i = c.loop-issue.issue in
    let n = c.args.node.now.node in
    let found = ap (λ (q : Requests). slice_get q.requests i) (sym c.requests-requests.ensures.value) ∙ sym c.at.ensures in
    elim c.match-at.branch [
      | in-Some+else-leaves_area w ↦
          sym (keeps_here (states c.args.nodes.now) n i (asked w.in-Some.request.now)
          (found ∙ ap (option_map asked) (ap option_copied w.in-Some.is)) (sym w.leaves_area.ensures ∙ w.if-leaves_area.false))
          ∙ c.loop-issue.invariant
      | in_default w ↦
          let past : length n.hart.communication.requests.requests ≤ i =
          past_end n.hart.communication.requests.requests i (found ∙ ap (option_map asked) (ap option_copied w.in_default.is)) in
          absurd (omega (arith, ap (λ (q : Requests). length q.requests) c.requests-requests.ensures.value))
    ]

pub returns : goal.returns
returns g c =
    let past : length c.args.node.now.node.hart.communication.requests.requests ≤ c.loop-issue.issue =
    omega (arith, ap (λ (q : Requests). length q.requests) c.requests-requests.ensures.value) in
    sym (no_request_left (states c.args.nodes.now) c.args.node.now.node c.loop-issue.issue past) ∙ c.loop-issue.invariant
