-- Each cell has what the requests before number `issue` add to what it had.
use Rattle.std.proofs.Common.{◌≡◌, ◌<◌, ◌+◌, ℕ, length, slice_index, take}
use Rattle.std.specs.Prelude.{sum_by}
use Rattle.bsp_profile.specs.Tally.{added}
use Rattle.bsp_profile.proofs.tally.add_requests.Given as goal

abbrev pub invariant-loop-issue : goal.invariant-loop-issue
invariant-loop-issue g l =
    (k : ℕ) → k < length l.initial.cells
    → slice_index l.cells k ≡ slice_index l.initial.cells k + sum_by (added l.count k l.caller) (take l.issue l.requests.requests)
