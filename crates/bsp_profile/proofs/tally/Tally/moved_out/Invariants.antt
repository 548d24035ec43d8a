-- The sum has the bytes that go to the ranks below this one, and is small enough to grow by one rank more.
use Rattle.std.proofs.Common.{◌≡◌, ◌+◌, ◌*◌, ◌^◌, ◌≤◌, slice_index}
use Rattle.std.specs.Prelude.{sum_by}
use Rattle.bsp_profile.specs.Moves.{others}
use Rattle.bsp_profile.specs.Tally.{place}
use Rattle.bsp_profile.proofs.tally.Tally.moved_out.Given as goal

abbrev pub invariant-loop-to : goal.invariant-loop-to
invariant-loop-to g l =
    let cells = l.self.cells.items in
    record {
      sum : l.all ≡ sum_by (λ to. slice_index cells (place l.self.count (l.rank + 1) to)) (others l.to l.rank);
      bounded : l.all ≤ l.to * 2 ^ 47;
    }
