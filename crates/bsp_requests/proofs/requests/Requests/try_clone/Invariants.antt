-- The copies so far ask what the requests that were passed ask.
use Rattle.std.proofs.Common.{◌≡◌, map, take}
use Rattle.bsp_requests.specs.Request.{asked}
use Rattle.bsp_requests.proofs.requests.Requests.try_clone.Given as goal

abbrev pub invariant-loop-request : goal.invariant-loop-request
invariant-loop-request g l = map asked l.requests.items ≡ map asked (take l.request-index l.request-items)
