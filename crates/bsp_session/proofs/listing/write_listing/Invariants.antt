-- The listings of the segments so far are written.
use Rattle.std.proofs.Common.{◌≤◌, take}
use Rattle.std.specs.List.{flat_map}
use Rattle.std.specs.Io.KnownBytes.{Appends}
use Rattle.rv_listing.specs.Listing.{listing_of_segment}
use Rattle.bsp_session.proofs.listing.write_listing.Given as goal

abbrev pub invariant-loop-segment : goal.invariant-loop-segment
invariant-loop-segment g l = record {
  written : Appends (g.W.Write.contents l.initial.out.inner) (g.W.Write.contents l.out.inner)
      (flat_map (listing_of_segment l.extensions) (take l.segment-index l.segment-items));
  rises : l.initial.out.failures ≤ l.out.failures;
}
