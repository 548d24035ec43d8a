-- The requests are added one after another.
use Rattle.std.proofs.Common.{◌≡◌, ◌≤◌, ◌^◌, length, sym, ap, ◌∙◌, arith, option_copied}
use Rattle.std.specs.Prelude.{option_map}
use Rattle.bsp_requests.specs.Request.{asked}
use Rattle.bsp_exchange.proofs.Finds.{past_end}
use Rattle.bsp_exchange.proofs.Limits.{bytes_at_most, requests_at_most}
use Rattle.bsp_exchange.proofs.Loads.{size_within}
use Rattle.bsp_profile.specs.Tally.{added}
use Rattle.bsp_profile.proofs.Added.{next_added, taken_added-le}
use Rattle.bsp_profile.proofs.tally.add_requests.Goals.{in-Some, in_default}
use Rattle.bsp_profile.proofs.tally.add_requests.Goals as goal

pub add_request-requires-clause-limit : goal.add_request-requires-clause-limit
add_request-requires-clause-limit g c =
    let found = sym c.at.ensures ∙ ap (option_map asked) (ap option_copied c.in-Some.is) in
    size_within c.args.requests.now.requests c.loop-issue.issue (asked c.in-Some.request.now) (2 ^ 30) found
    (bytes_at_most c.args.requests.now c.requires.limits)

pub add_request-requires-clause-room : goal.add_request-requires-clause-room
add_request-requires-clause-room g c = λ k within.
    let rs = c.args.requests.now.requests in
    let long : length c.loop-issue.cells ≡ length c.args.cells.now = c.loop-issue.auto.cells in
    let before = c.loop-issue.invariant k (omega (arith, long)) in
    let more = taken_added-le c.args.count k c.args.caller c.loop-issue.issue rs
    (bytes_at_most c.args.requests.now c.requires.limits) (requests_at_most c.args.requests.now c.requires.limits) in
    omega (arith, before, more, c.requires.room k (omega (arith, long)))

pub loop-issue-preserved : goal.loop-issue-preserved
loop-issue-preserved g c = λ k within.
    let i = c.loop-issue.issue in
    let rs = c.args.requests.now.requests in
    let long : length c.loop-issue.cells ≡ length c.args.cells.now = c.loop-issue.auto.cells in
    elim c.match-at.branch [
      | in-Some w ↦
          let found = sym c.at.ensures ∙ ap (option_map asked) (ap option_copied w.in-Some.is) in
          rw w.cells-is
          (next_added (added c.args.count k c.args.caller) rs i (asked w.in-Some.request.now) _ _ _ found
          (c.loop-issue.invariant k within)
          (w.add_request.ensures k (omega (arith, long))))
      | in_default w ↦
          let past : length rs ≤ i = past_end rs i (sym c.at.ensures ∙ ap (option_map asked) (ap option_copied w.in_default.is)) in
          absurd (omega (arith, c.len-issue-end.ensures.len, c.loop-issue-test.true))
    ]
