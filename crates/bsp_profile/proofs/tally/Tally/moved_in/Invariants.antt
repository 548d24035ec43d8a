-- The sum has the bytes that come from the ranks below this one, and is small enough to grow by one rank more.
use Rattle.std.proofs.Common.{◌≡◌, ◌+◌, ◌*◌, ◌^◌, ◌≤◌, slice_index}
use Rattle.std.specs.Prelude.{sum_by}
use Rattle.bsp_profile.specs.Moves.{others}
use Rattle.bsp_profile.specs.Tally.{place}
use Rattle.bsp_profile.proofs.tally.Tally.moved_in.Given as goal

abbrev pub invariant-loop-from : goal.invariant-loop-from
invariant-loop-from g l =
    let cells = l.self.cells.items in
    record {
      sum : l.all ≡ sum_by (λ from. slice_index cells (place l.self.count (from + 1) l.rank)) (others l.from l.rank);
      bounded : l.all ≤ l.from * 2 ^ 47;
    }
